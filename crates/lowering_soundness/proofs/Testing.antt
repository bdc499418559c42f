-- A test of what a pattern asks for: it is as required, and what is reported on both of its sides.
use Rattle.std.proofs.Common.{◌≡◌, inl, inr, ℕ, zero, suc, ◌<◌, Bool, true, false, List, [], ◌∷◌, Option, Some, refl, sym, ap, ◌∙◌, subst, true≢false, ◌==◌}
use Rattle.std.proofs.lemmas.Option.{none-some, same_Some}
use Rattle.separation.specs.fip_language.Table.{Table}
use Rattle.separation.specs.fip_language.Every.{Among}
use Rattle.separation.specs.cell_code.declared.kind.From.{From}
use Rattle.separation.specs.cell_code.declared.kind.Kind.{Kind}
use Rattle.separation.specs.cell_code.declared.kind.Kind.TheVariants as K
use Rattle.separation.specs.code_rules.Types.{count, fields, is_scalar_type}
use Rattle.separation.specs.code_rules.Kinds.{set_of}
use Rattle.separation.specs.code_rules.Changes.{narrow, without}
use Rattle.separation.specs.code_rules.Asked.{may_have}
use Rattle.separation.proofs.separation_kinds.Basics.{chosen, refused, or_not, itself, unequal_is, below_is}
use Rattle.separation.proofs.separation_kinds.Fits.{narrowed}
use Rattle.lowering_relation.specs.match_knowledge.declared.heads.Head.{Head}
use Rattle.lowering_relation.specs.match_knowledge.declared.heads.Head.TheVariants.{Number, Tag}
use Rattle.lowering_relation.specs.match_knowledge.declared.verdicts.Verdict.TheVariants.{Asks}
use Rattle.lowering_relation.specs.match_knowledge.ValueHeads.{IsHead, same_head}
use Rattle.lowering_relation.specs.match_knowledge.Patterns as M
use Rattle.lowering_relation.specs.match_knowledge.Patterns.{IsPattern, ArePatterns}
use Rattle.lowering_relation.specs.match_knowledge.Known.{Known, Open, Is, Knowns, NoKnowns, MoreKnowns, compare, compare_all, is_asks, is_in, opens, settle, side, side_all}
use Rattle.lowering_relation.proofs.match_knowledge.Facts.{same_is}
use Rattle.lowering_relation.proofs.match_knowledge.Split.{asks_is, both_asks, is_asking}
use Rattle.lowering_relation.proofs.match_knowledge.VerdictFacts.{if_asks}
use Rattle.lowering_relation.specs.Spots.{Spot, At, Spots, NoSpots, MoreSpots, register, below, all_in, Differ, AllDiffer}
use Rattle.lowering_relation.specs.Reading.{contains, Asked, asked, asked_first}
use Rattle.lowering_relation.proofs.MatchLists.{in_tail, in_part}
use Rattle.lowering_relation.specs.Sights.{left, part_kind, Unread, Below, AllBelow}
use Rattle.lowering_soundness.proofs.Arguments.{int_scalar}
use Rattle.lowering_soundness.proofs.Lefts.{left_tag, left_has, left_without, head_fields, head_fresh}
use Rattle.lowering_soundness.proofs.Looking.{MayTest, sided}
use Rattle.lowering_soundness.proofs.Positions.{OnePart, SameOn, unread_on, part_on, all_below_on, all_fresh_below}
use Rattle.lowering_soundness.proofs.Peeking.{no_number, Ready, ReadyFirst, apart_head}

-- how a register holds a value of which constructors are known
pub data Form : Type 0 where
  AsScalar : Form
  AsOwned : Form
  AsLent : (root : Option ℕ) (from : Option From) → Form

abbrev pub formed : ℕ → Form → List ℕ → Kind
formed t AsScalar cs = K.Scalar t
formed t AsOwned cs = K.Owned t cs
formed t (AsLent root from) cs = K.Lent t cs root from

abbrev pub FormRight : Table → ℕ → Form → Type 0
FormRight w t AsScalar = is_scalar_type w t ≡ true
FormRight w t AsOwned = is_scalar_type w t ≡ false
FormRight w t (AsLent root from) = is_scalar_type w t ≡ false

narrow_formed : (t : ℕ) (form : Form) (cs ds : List ℕ) → narrow ds (formed t form cs) ≡ formed t form ds
narrow_formed t AsScalar cs ds = refl
narrow_formed t AsOwned cs ds = refl
narrow_formed t (AsLent root from) cs ds = refl

-- one constructor is out
narrow_out : (t : ℕ) (form : Form) (cs : List ℕ) (n : ℕ) → narrow (without n (set_of (formed t form cs))) (formed t form cs) ≡ formed t form (without n cs)
narrow_out t AsScalar cs n = refl
narrow_out t AsOwned cs n = refl
narrow_out t (AsLent root from) cs n = refl

may_formed : (w : Table) (t : ℕ) (form : Form) (cs : List ℕ) (n : ℕ) → n < count w t → Rattle.separation.specs.code_rules.Kinds.has cs n ≡ true → may_have w n (formed t form cs) ≡ true
may_formed w t AsScalar cs n low h = below_is n (count w t) low
may_formed w t AsOwned cs n low h = h
may_formed w t (AsLent root from) cs n low h = h

-- an int is a scalar
form_int : (w : Table) (form : Form) (cs : List ℕ) → FormRight w 0 form → formed 0 form cs ≡ K.Scalar 0
form_int w AsScalar cs h = refl
form_int w AsOwned cs h = absurd (true≢false (sym (int_scalar w) ∙ h))
form_int w (AsLent root from) cs h = absurd (true≢false (sym (int_scalar w) ∙ h))

-- a position that was read
pub part_form : (w : Table) (root : Option ℕ) (t r i : ℕ) → (form : Form) × FormRight w t form × ((k : Known) → part_kind w root t k r i ≡ formed t form (left w t k))
part_form w root t r i = elim (or_not (is_scalar_type w t)) as (λ v. (form : Form) × FormRight w t form × ((k : Known) → part_kind w root t k r i ≡ formed t form (left w t k))) [
  | inl e ↦ (AsScalar, e, (λ k. chosen (is_scalar_type w t) (K.Scalar t) (K.Lent t (left w t k) root (Some (record { register = r; field = i }))) e))
  | inr e ↦ (AsLent root (Some (record { register = r; field = i })), e, (λ k. refused (is_scalar_type w t) (K.Scalar t) (K.Lent t (left w t k) root (Some (record { register = r; field = i }))) e))
]

-- registers that weren't tested
pub sided_other : (h : Head) (r : ℕ) (b : Bool) (m : ℕ → Kind) (q : ℕ) → (q ≡ r → ⊥) → sided h r b m q ≡ m q
sided_other (Number i) r b m q ne = refl
sided_other (Tag n) r true m q ne = refused (q == r) (narrow (n ∷ []) (m q)) (m q) (unequal_is q r ne)
sided_other (Tag n) r false m q ne = refused (q == r) (narrow (without n (set_of (m r))) (m q)) (m q) (unequal_is q r ne)

narrowed_here : (m : ℕ → Kind) (r : ℕ) (cs : List ℕ) → narrowed m r cs r ≡ narrow cs (m r)
narrowed_here m r cs = chosen (r == r) (narrow cs (m r)) (m r) (itself r)

-- what is reported of one register that was tested
here_sided : (w : Table) (t u : ℕ) (form : Form) (h : Head) (ps : M.Patterns) (out : List Head) (r : ℕ) (m : ℕ → Kind) → IsPattern w t (M.Test u h ps) → is_in h out ≡ false → m r ≡ formed t form (left w t (Open out)) → FormRight w t form → (b : Bool) → sided h r b m r ≡ formed t form (left w t (settle b h ps out))
here_sided w zero u form (Number i) ps out r m typed none own right b = own ∙ (form_int w form (left w 0 (Open out)) right ∙ sym (form_int w form (left w 0 (settle b (Number i) ps out)) right))
here_sided w (suc t) u form (Number i) ps out r m typed none own right b = absurd typed.2
here_sided w t u form (Tag n) ps out r m typed none own right true =
    narrowed_here m r (n ∷ []) ∙ (ap (narrow (n ∷ [])) own ∙ (narrow_formed t form (left w t (Open out)) (n ∷ []) ∙ ap (formed t form) (sym (left_tag w t n (opens ps) (head_fields w t n typed.1 typed.2).0))))
here_sided w t u form (Tag n) ps out r m typed none own right false =
    narrowed_here m r (without n (set_of (m r))) ∙ (ap (λ k. narrow (without n (set_of k)) k) own ∙ (narrow_out t form (left w t (Open out)) n ∙ ap (formed t form) (sym (left_without w t n out))))

here_may : (w : Table) (t u : ℕ) (form : Form) (h : Head) (ps : M.Patterns) (out : List Head) (r : ℕ) (m : ℕ → Kind) → IsPattern w t (M.Test u h ps) → is_in h out ≡ false → m r ≡ formed t form (left w t (Open out)) → FormRight w t form → MayTest w h (m r)
here_may w zero u form (Number i) ps out r m typed none own right = ap (Rattle.separation.specs.code_rules.Kinds.is_scalar_of 0) (own ∙ form_int w form (left w 0 (Open out)) right)
here_may w (suc t) u form (Number i) ps out r m typed none own right = absurd typed.2
here_may w t u form (Tag n) ps out r m typed none own right =
    let low = (head_fields w t n typed.1 typed.2).0 in
    ap (may_have w n) own ∙ may_formed w t form (left w t (Open out)) n low (left_has w t n out low none)

-- the positions below one that was tested
below_settled : (w : Table) (root : Option ℕ) (t u : ℕ) (h : Head) (ps : M.Patterns) (out : List Head) (r : ℕ) (fs : Spots) (more : List ℕ) (l : ℕ → Kind) (b : Bool) → IsPattern w t (M.Test u h ps) → Unread (all_in fs) more l → Below w root t (settle b h ps out) (At r fs) more l
below_settled w root t v (Number i) ps out r fs more l true typed u = u
below_settled w root t v (Tag n) ps out r fs more l true typed u = all_fresh_below w root (fields w t n) (opens ps) fs r 0 more l (head_fresh w t n typed.1 ps typed.2 typed.3) u
below_settled w root t v h ps out r fs more l false typed u = u

-- Both sides of a test: b reports which.
pub record Tested (w : Table) (P : Bool → (ℕ → Kind) → Type 0) (zs : List ℕ) (found : Asked) (m : ℕ → Kind) : Type 0 where
  pub may : MayTest w found.head (m found.register)
  pub parts : (b : Bool) → P b (sided found.head found.register b m)
  pub within : Among found.register zs

-- what is reported of a position, and below it
pub record Here (w : Table) (root : Option ℕ) (t : ℕ) (form : Form) (k : Known) (s : Spot) (more : List ℕ) (m : ℕ → Kind) : Type 0 where
  pub own : m (register s) ≡ formed t form (left w t k)
  pub parts : Below w root t k s more m

same_sided : (zs more : List ℕ) (found : Asked) (m : ℕ → Kind) (b : Bool) → ((z : ℕ) → Among z zs → z ≡ found.register → ⊥) → SameOn zs more more m (sided found.head found.register b m)
same_sided zs more found m b ne z a = (refl, sided_other found.head found.register b m z (ne z a))

open_tested : (w : Table) (root : Option ℕ) (t u : ℕ) (form : Form) (h : Head) (ps : M.Patterns) (out : List Head) (r : ℕ) (fs : Spots) (more : List ℕ) (m : ℕ → Kind) → IsPattern w t (M.Test u h ps) → is_in h out ≡ false → (Among r (all_in fs) → ⊥) → FormRight w t form → Here w root t form (Open out) (At r fs) more m → Tested w (λ b l. Here w root t form (settle b h ps out) (At r fs) more l) (r ∷ all_in fs) (record { register = r; head = h }) m
open_tested w root t u form h ps out r fs more m typed none off right here = record {
  may = here_may w t u form h ps out r m typed none here.own right;
  parts = λ b. record {
    own = here_sided w t u form h ps out r m typed none here.own right b;
    parts = below_settled w root t u h ps out r fs more (sided h r b m) b typed (unread_on (all_in fs) more more m (sided h r b m) here.parts (λ z a. (refl, sided_other h r b m z (λ e. off (subst (λ q. Among q (all_in fs)) e a)))));
  };
  within = inl refl;
}

seen_here : (w : Table) (root : Option ℕ) (t : ℕ) (k : Known) (s : Spot) (r i : ℕ) (form : Form) (more : List ℕ) (m : ℕ → Kind) → ((k : Known) → part_kind w root t k r i ≡ formed t form (left w t k)) → contains (register s) more ≡ true → OnePart w root t k s r i more m → Here w root t form k s more m
seen_here w root t k s r i form more m is seen (inl p) = record { own = p.1 ∙ is k; parts = p.2 }
seen_here w root t k s r i form more m is seen (inr p) = absurd (true≢false (sym seen ∙ p.0))

-- the first part asks
first_tested : (w : Table) (root : Option ℕ) (t : ℕ) (ts : List ℕ) (p : M.Pattern) (ps : M.Patterns) (k : Known) (ks : Knowns) (s : Spot) (ss : Spots) (r i : ℕ) (form : Form) (found : Asked) (more : List ℕ) (m : ℕ → Kind) → AllDiffer (MoreSpots s ss) → is_asks (compare p k) ≡ true → contains (register s) more ≡ true → ((k : Known) → part_kind w root t k r i ≡ formed t form (left w t k)) → AllBelow w root ts ks ss r (suc i) more m → Tested w (λ b l. Here w root t form (side b p k) s more l) (register s ∷ below s) found m → Tested w (λ b l. AllBelow w root (t ∷ ts) (side_all b (M.MorePatterns p ps) (MoreKnowns k ks)) (MoreSpots s ss) r i more l) (all_in (MoreSpots s ss)) found m
first_tested w root t ts p ps k ks s ss r i form found more m differ asks seen is rest sub = record {
  may = sub.may;
  parts = λ b. (let h = sub.parts b in
      subst (λ ks. AllBelow w root (t ∷ ts) ks (MoreSpots s ss) r i more (sided found.head found.register b m)) (sym (chosen (is_asks (compare p k)) (MoreKnowns (side b p k) ks) (MoreKnowns k (side_all b ps ks)) asks)) (
        inl (seen, h.own ∙ sym (is (side b p k)), h.parts),
        all_below_on w root ts ks ss r (suc i) more more m (sided found.head found.register b m) rest
            (same_sided (all_in ss) more found m b (λ z a e. apart_head s ss z differ a (subst (λ q. Among q (register s ∷ below s)) (sym e) sub.within))),
      ));
  within = in_part found.register s ss sub.within;
}

-- a later one asks
later_tested : (w : Table) (root : Option ℕ) (t : ℕ) (ts : List ℕ) (p : M.Pattern) (ps : M.Patterns) (k : Known) (ks : Knowns) (s : Spot) (ss : Spots) (r i : ℕ) (found : Asked) (more : List ℕ) (m : ℕ → Kind) → AllDiffer (MoreSpots s ss) → is_asks (compare p k) ≡ false → OnePart w root t k s r i more m → Tested w (λ b l. AllBelow w root ts (side_all b ps ks) ss r (suc i) more l) (all_in ss) found m → Tested w (λ b l. AllBelow w root (t ∷ ts) (side_all b (M.MorePatterns p ps) (MoreKnowns k ks)) (MoreSpots s ss) r i more l) (all_in (MoreSpots s ss)) found m
later_tested w root t ts p ps k ks s ss r i found more m differ none part sub = record {
  may = sub.may;
  parts = λ b.
      subst (λ ks. AllBelow w root (t ∷ ts) ks (MoreSpots s ss) r i more (sided found.head found.register b m)) (sym (refused (is_asks (compare p k)) (MoreKnowns (side b p k) ks) (MoreKnowns k (side_all b ps ks)) none)) (
        part_on w root t k s r i more more m (sided found.head found.register b m) part
            (same_sided (register s ∷ below s) more found m b (λ z a e. apart_head s ss z differ (subst (λ q. Among q (all_in ss)) (sym e) sub.within) a)),
        sub.parts b,
      );
  within = in_tail found.register s ss sub.within;
}

-- of a position whose constructor is known
deeper_tested : (w : Table) (root : Option ℕ) (t n : ℕ) (form : Form) (ps : M.Patterns) (ks : Knowns) (r : ℕ) (fs : Spots) (found : Asked) (more : List ℕ) (m : ℕ → Kind) → (Among r (all_in fs) → ⊥) → m r ≡ formed t form (left w t (Is (Tag n) ks)) → Tested w (λ b l. AllBelow w root (fields w t n) (side_all b ps ks) fs r 0 more l) (all_in fs) found m → Tested w (λ b l. Here w root t form (Is (Tag n) (side_all b ps ks)) (At r fs) more l) (r ∷ all_in fs) found m
deeper_tested w root t n form ps ks r fs found more m off own sub = record {
  may = sub.may;
  parts = λ b. record {
    own = sided_other found.head found.register b m r (λ e. off (subst (λ q. Among q (all_in fs)) (sym e) sub.within)) ∙ own;
    parts = sub.parts b;
  };
  within = inr sub.within;
}

mutual
  pub tests : (w : Table) (root : Option ℕ) (t : ℕ) (form : Form) (p : M.Pattern) (k : Known) (s : Spot) (found : Asked) (more : List ℕ) (m : ℕ → Kind) → IsPattern w t p → compare p k ≡ Asks → Differ s → (Among (register s) (below s) → ⊥) → FormRight w t form → Here w root t form k s more m → Ready p k s more → asked p k s ≡ Some found → Tested w (λ b l. Here w root t form (side b p k) s more l) (register s ∷ below s) found m
  tests w root t form M.Any k s found more m typed asks differ off right here ready e = absurd (cc)
  tests w root t form (M.Test u h ps) (Open out) (At r fs) found more m typed asks differ off right here ready e =
      subst (λ a. Tested w (λ b l. Here w root t form (settle b h ps out) (At r fs) more l) (r ∷ all_in fs) a m) (same_Some (record { register = r; head = h }) found e)
      (open_tested w root t u form h ps out r fs more m typed (if_asks (is_in h out) asks) off right here)
  tests w root t form (M.Test u h ps) (Is (Number j) ks) (At r fs) found more m typed asks differ off right here ready e =
      let a = asks_is (compare_all ps ks) (same_head h (Number j)) asks in
      absurd (no_number w t j typed.1 ps ks (subst (λ g. IsHead w t g typed.1) (same_is h (Number j) a.0) typed.2) typed.3 a.1)
  tests w root t form (M.Test u h ps) (Is (Tag n) ks) (At r fs) found more m typed asks differ off right here ready e =
      let a = asks_is (compare_all ps ks) (same_head h (Tag n)) asks in
      let hf = head_fields w t n typed.1 (subst (λ g. IsHead w t g typed.1) (same_is h (Tag n) a.0) typed.2) in
      deeper_tested w root t n form ps ks r fs found more m off here.own
      (all_tests w root (fields w t n) ps ks fs r 0 found more m (subst (λ ts. ArePatterns w ts ps) (sym hf.1) typed.3) a.1 differ here.parts ready e)

  pub all_tests : (w : Table) (root : Option ℕ) (ts : List ℕ) (ps : M.Patterns) (ks : Knowns) (ss : Spots) (r i : ℕ) (found : Asked) (more : List ℕ) (m : ℕ → Kind) → ArePatterns w ts ps → compare_all ps ks ≡ Asks → AllDiffer ss → AllBelow w root ts ks ss r i more m → ReadyFirst ps ks ss more → asked_first ps ks ss ≡ Some found → Tested w (λ b l. AllBelow w root ts (side_all b ps ks) ss r i more l) (all_in ss) found m
  all_tests w root ts M.NoPatterns ks ss r i found more m are asks differ parts ready e = absurd (cc)
  all_tests w root ts (M.MorePatterns p ps) NoKnowns ss r i found more m are asks differ parts ready e = absurd (cc)
  all_tests w root ts (M.MorePatterns p ps) (MoreKnowns k ks) NoSpots r i found more m are asks differ parts ready e = absurd (none-some found e)
  all_tests w root [] (M.MorePatterns p ps) (MoreKnowns k ks) (MoreSpots s ss) r i found more m are asks differ parts ready e = absurd are
  all_tests w root (t ∷ ts) (M.MorePatterns p ps) (MoreKnowns k ks) (MoreSpots s ss) r i found more m are asks differ parts (inl h) e =
      let form = part_form w root t r i in
      let here = seen_here w root t k s r i form.0 more m form.2 h.1 parts.0 in
      first_tested w root t ts p ps k ks s ss r i form.0 found more m differ h.0 h.1 form.2 parts.1
      (tests w root t form.0 p k s found more m are.0 (is_asking (compare p k) h.0) differ.3 differ.0 form.1 here h.2 (sym (chosen (is_asks (compare p k)) (asked p k s) (asked_first ps ks ss) h.0) ∙ e))
  all_tests w root (t ∷ ts) (M.MorePatterns p ps) (MoreKnowns k ks) (MoreSpots s ss) r i found more m are asks differ parts (inr h) e =
      later_tested w root t ts p ps k ks s ss r i found more m differ h.0 parts.0
      (all_tests w root ts ps ks ss r (suc i) found more m are.1 (both_asks (compare p k) (compare_all ps ks) asks h.0) differ.4 parts.1 h.1 (sym (refused (is_asks (compare p k)) (asked p k s) (asked_first ps ks ss) h.0) ∙ e))
