-- What a chosen pattern names is read: each read is as required.
use Rattle.std.proofs.Common.{◌≡◌, ◌⊎◌, inl, inr, ℕ, suc, ◌≤◌, Bool, true, false, List, [], ◌∷◌, length, slice_get, Option, Some, refl, sym, ap, ◌∙◌, subst, true≢false, arith, if◌then◌else◌, ◌==◌}
use Rattle.separation.specs.fip_language.Every.{Among}
use Rattle.separation.specs.cell_code.declared.kind.Kind.{Kind}
use Rattle.lowering_relation.specs.fip_trees.Tree.{Pattern, BinderPattern, LiteralPattern, ConstructorPattern, Patterns, NoPatterns, MorePatterns}
use Rattle.separation.specs.cell_code.Plain.{PlainFunction, PlainCode}
use Rattle.separation.specs.code_rules.Types.{fields}
use Rattle.separation.specs.code_rules.Kinds.{root_of}
use Rattle.separation.specs.code_rules.Asked.{known_fields}
use Rattle.separation.proofs.separation_kinds.Basics.{or_not, equal, unequal, neither}
use Rattle.lowering_relation.specs.match_knowledge.declared.heads.Head.TheVariants.{Number, Tag}
use Rattle.lowering_relation.specs.match_knowledge.declared.verdicts.Verdict.{Verdict}
use Rattle.lowering_relation.specs.match_knowledge.declared.verdicts.Verdict.TheVariants.{Fits, Misses, Asks}
use Rattle.lowering_relation.specs.match_knowledge.ValueHeads.{IsHead, same_head}
use Rattle.lowering_relation.specs.match_knowledge.Patterns.{IsPattern, ArePatterns}
use Rattle.lowering_relation.specs.match_knowledge.Known.{Known, Open, Is, Knowns, NoKnowns, MoreKnowns, both, compare, compare_all}
use Rattle.lowering_relation.specs.Spots.{Spot, At, Spots, NoSpots, MoreSpots, register, below, all_in, Differ, AllDiffer}
use Rattle.lowering_relation.specs.Rows.{row_of, rows_of}
use Rattle.lowering_relation.specs.Reading.{contains}
use Rattle.lowering_relation.specs.Opening.{is_named, names_any, any_named}
use Rattle.lowering_relation.proofs.MatchLists.{in_head, in_tail, in_part}
use Rattle.lowering_relation.specs.Labels.{Quiet}
use Rattle.lowering_relation.specs.Sights.{Below, AllBelow}
use Rattle.lowering_relation.specs.Tests.{ReadOne, NamesLaid, NameAll}
use Rattle.lowering_relation.proofs.Growing.{names_end, name_all_end}
use Rattle.lowering_soundness.proofs.Arguments.{with_field}
use Rattle.lowering_soundness.proofs.Branches.{came_on, came_quiet}
use Rattle.lowering_soundness.proofs.Lefts.{head_fields}
use Rattle.lowering_soundness.proofs.Positions.{OnePart, part_on, all_below_on, Froms}
use Rattle.lowering_soundness.proofs.Peeking.{OwnKind, own_part, Seen, MayRead, Reads, One, read_one, reads_none, FieldsFrom, fields_start, fields_next, fields_here, apart_head, own_tree}
pub use Rattle.lowering_relation.proofs.match_knowledge.VerdictFacts.{both_fits, if_open_fits as open_fits}

-- ---- what is known where a pattern matches all

pub if_fits : (b : Bool) (v : Verdict) → (if b then v else Misses) ≡ Fits → (b ≡ true) × (v ≡ Fits)
if_fits true v e = (refl, e)
if_fits false v e = absurd (cc)

-- ---- the variables that were read

abbrev mutual
  pub NamedRead : Pattern → Spot → List ℕ → Type 0
  NamedRead (BinderPattern b) s more = is_named b ≡ true → contains (register s) more ≡ true
  NamedRead (LiteralPattern i p) s more = Unit {0}
  NamedRead (ConstructorPattern t d n m p ps) (At r fs) more = AllNamedRead ps fs more

  pub AllNamedRead : Patterns → Spots → List ℕ → Type 0
  AllNamedRead NoPatterns ss more = Unit {0}
  AllNamedRead (MorePatterns p ps) NoSpots more = Unit {0}
  AllNamedRead (MorePatterns p ps) (MoreSpots s ss) more = NamedRead p s more × AllNamedRead ps ss more

mutual
  pub none_named : (q : Pattern) (s : Spot) (more : List ℕ) → names_any q ≡ false → NamedRead q s more
  none_named (BinderPattern b) s more h = λ e. absurd (true≢false (sym e ∙ h))
  none_named (LiteralPattern i p) s more h = tt
  none_named (ConstructorPattern t d n m p ps) (At r fs) more h = all_none_named ps fs more h

  pub all_none_named : (ps : Patterns) (ss : Spots) (more : List ℕ) → any_named ps ≡ false → AllNamedRead ps ss more
  all_none_named NoPatterns ss more h = tt
  all_none_named (MorePatterns p ps) NoSpots more h = tt
  all_none_named (MorePatterns p ps) (MoreSpots s ss) more h =
      let b = neither (names_any p) (any_named ps) h in
      (none_named p s more b.0, all_none_named ps ss more b.1)

mutual
  pub named_on : (q : Pattern) (s : Spot) (read more : List ℕ) → ((z : ℕ) → contains z read ≡ true → contains z more ≡ true) → NamedRead q s read → NamedRead q s more
  named_on (BinderPattern b) s read more kept h = λ e. kept (register s) (h e)
  named_on (LiteralPattern i p) s read more kept h = tt
  named_on (ConstructorPattern t d n m p ps) (At r fs) read more kept h = all_named_on ps fs read more kept h

  pub all_named_on : (ps : Patterns) (ss : Spots) (read more : List ℕ) → ((z : ℕ) → contains z read ≡ true → contains z more ≡ true) → AllNamedRead ps ss read → AllNamedRead ps ss more
  all_named_on NoPatterns ss read more kept h = tt
  all_named_on (MorePatterns p ps) NoSpots read more kept h = tt
  all_named_on (MorePatterns p ps) (MoreSpots s ss) read more kept h = (named_on p s read more kept h.0, all_named_on ps ss read more kept h.1)

abbrev pub is_binder : Pattern → Bool
is_binder (BinderPattern b) = true
is_binder (LiteralPattern i p) = false
is_binder (ConstructorPattern t d n m p ps) = false

seen_on : {r0 : ℕ} (read more : List ℕ) (r : ℕ) → ((z : ℕ) → contains z read ≡ true → contains z more ≡ true) → Seen r0 read r → Seen r0 more r
seen_on read more r kept (inl e) = inl e
seen_on read more r kept (inr e) = inr (kept r e)

module _ (c : PlainCode) (f : PlainFunction) (r0 : ℕ) where
  are_some : (ts : List ℕ) (q : Pattern) (qs : Patterns) → ArePatterns c.types ts (rows_of (MorePatterns q qs)) → (n : ℕ) × (length ts ≡ suc n)
  are_some [] q qs h = absurd h
  are_some (t ∷ ts) q qs h = (length ts, refl)

  -- one part and those after it
  joined : (root : Option ℕ) (t : ℕ) (ts : List ℕ) (p : Pattern) (ps : Patterns) (k : Known) (ks : Knowns) (s : Spot) (ss : Spots) (r i at : ℕ) (read : List ℕ) (m : ℕ → Kind) (one : ℕ) (seen : List ℕ) (mid : ℕ) (more : List ℕ) → AllDiffer (MoreSpots s ss) → (o : Reads c f r0 (NamedRead p s) (OnePart c.types root t k s r i) (register s ∷ below s) at read m one seen) → Reads c f r0 (AllNamedRead ps ss) (AllBelow c.types root ts ks ss r (suc i)) (all_in ss) one seen o.following mid more → Reads c f r0 (AllNamedRead (MorePatterns p ps) (MoreSpots s ss)) (AllBelow c.types root (t ∷ ts) (MoreKnowns k ks) (MoreSpots s ss) r i) (all_in (MoreSpots s ss)) at read m mid more
  joined root t ts p ps k ks s ss r i at read m one seen mid more differ o rest = record {
    following = rest.following;
    came = came_on c f at one mid m o.following rest.following o.came rest.came;
    ready = (named_on p s seen more rest.kept o.ready, rest.ready);
    parts = (part_on c.types root t k s r i seen more o.following rest.following o.parts (λ z a. rest.others z (λ y. apart_head s ss z differ y a)), rest.parts);
    kept = λ q e. rest.kept q (o.kept q e);
    others = λ q ne. (let a = o.others q (λ y. ne (in_part q s ss y)) in let b = rest.others q (λ y. ne (in_tail q s ss y)) in (b.0 ∙ a.0, b.1 ∙ a.1));
    froms = rest.froms;
  }

  -- a part that was read, and what it names below it
  part_read : (root : Option ℕ) (t : ℕ) (p : Pattern) (k : Known) (s : Spot) (r i at : ℕ) (read : List ℕ) (m : ℕ → Kind) (one : ℕ) (seen : List ℕ) (mid : ℕ) (more : List ℕ) → (Among (register s) (below s) → ⊥) → (o : One c f r0 root t k s r i at read m one seen) → Reads c f r0 (NamedRead p s) (Below c.types root t k s) (below s) one seen o.following mid more → Reads c f r0 (NamedRead p s) (OnePart c.types root t k s r i) (register s ∷ below s) at read m mid more
  part_read root t p k s r i at read m one seen mid more off o sub = record {
    following = sub.following;
    came = came_on c f at one mid m o.following sub.following o.came sub.came;
    ready = sub.ready;
    parts = inl (sub.kept (register s) o.seen, (sub.others (register s) off).1 ∙ o.kind, sub.parts);
    kept = λ q e. sub.kept q (elim (or_not (q == register s)) as (λ v. contains q seen ≡ true) [
      | inl y ↦ ap (λ q. contains q seen) (equal q (register s) y) ∙ o.seen
      | inr y ↦ (o.others q (unequal q (register s) y)).0 ∙ e
    ]);
    others = λ q ne. (let a = o.others q (λ e. ne (inl e)) in let b = sub.others q (λ y. ne (inr y)) in (b.0 ∙ a.0, b.1 ∙ a.1));
    froms = sub.froms;
  }

  -- what is required of a cell whose fields are read
  record CellReady (root : Option ℕ) (t l : ℕ) (ps : Patterns) (ks : Knowns) (r : ℕ) (own : Kind) : Type 0 where
    pub are : ArePatterns c.types (fields c.types t l) (rows_of ps)
    pub fit : compare_all (rows_of ps) ks ≡ Fits
    pub known : known_fields c.types own ≡ fields c.types t l
    pub rooted : root_of r own ≡ root

  cell_ready : (root : Option ℕ) (t n l : ℕ) (q : Pattern) (qs : Patterns) (ks : Knowns) (r : ℕ) (own : Kind) → ((n == l) ≡ true) × (compare_all (rows_of (MorePatterns q qs)) ks ≡ Fits) → (ts : List ℕ) × IsHead c.types t (Tag n) ts × ArePatterns c.types ts (rows_of (MorePatterns q qs)) → OwnKind c.types root t (Is (Tag l) ks) r own → CellReady root t l (MorePatterns q qs) ks r own
  cell_ready root t n l q qs ks r own fit typed is =
      let same = equal n l fit.0 in
      let hf = head_fields c.types t l typed.0 (subst (λ n. IsHead c.types t (Tag n) typed.0) same typed.1) in
      let are : ArePatterns c.types (fields c.types t l) (rows_of (MorePatterns q qs)) = subst (λ ts. ArePatterns c.types ts (rows_of (MorePatterns q qs))) (sym hf.1) typed.2 in
      let some = are_some (fields c.types t l) q qs are in
      let tree = own_tree c f r0 root t l ks r own hf.0 (with_field c.types t l some.0 some.1) is in
      record { are = are; fit = fit.1; known = tree.0; rooted = tree.1 }

  part_names : (root : Option ℕ) (t : ℕ) (p : Pattern) (k : Known) (s : Spot) (r i at : ℕ) (read : List ℕ) (m : ℕ → Kind) (last : ℕ) (seen : List ℕ) (end : ℕ) → (Among (register s) (below s) → ⊥) → (register s ≡ r → ⊥) → MayRead f.registers r0 (register s) → slice_get (known_fields c.types (m r)) i ≡ Some t → root_of r (m r) ≡ root → Seen r0 read r → OnePart c.types root t k s r i read m → (((names_any p ≡ true) × (mid : ℕ) × (one : List ℕ) × ReadOne f at r i (register s) read mid one × NamesLaid f mid p s one last seen) ⊎ ((names_any p ≡ false) × (last ≡ at) × (seen ≡ read))) → Froms r0 read m → Quiet f at end m → last ≤ end → ((mid : ℕ) (one : List ℕ) (l : ℕ → Kind) → OwnKind c.types root t k (register s) (l (register s)) → Seen r0 one (register s) → contains (register s) one ≡ true → Below c.types root t k s one l → NamesLaid f mid p s one last seen → Froms r0 one l → Quiet f mid end l → Reads c f r0 (NamedRead p s) (Below c.types root t k s) (below s) mid one l last seen) → Reads c f r0 (NamedRead p s) (OnePart c.types root t k s r i) (register s ∷ below s) at read m last seen
  part_names root t p k s r i at read m last seen end off other low there roots known part (inr h) froms quiet le deep =
      reads_none c f r0 (NamedRead p s) (OnePart c.types root t k s r i) (register s ∷ below s) at read m last seen h.1 h.2 (none_named p s read h.0) part froms
  part_names root t p k s r i at read m last seen end off other low there roots known part (inl h) froms quiet le deep =
      let high = names_end f h.1 p s h.2 last seen h.4 in
      let o = read_one c f r0 root t k s r i at read m h.1 h.2 end there roots known other low off part h.3 froms quiet (omega (arith, high, le)) in
      let sub = deep h.1 h.2 o.following (subst (OwnKind c.types root t k (register s)) (sym o.kind) (own_part c.types root t k (register s) r i)) (inr o.seen) o.seen o.parts h.4 o.froms (came_quiet c f at h.1 end m o.following o.came quiet) in
      part_read root t p k s r i at read m h.1 h.2 last seen off o sub

  mutual
    pub names : (root : Option ℕ) (t : ℕ) (q : Pattern) (k : Known) (s : Spot) (at : ℕ) (read : List ℕ) (m : ℕ → Kind) (mid : ℕ) (more : List ℕ) (end : ℕ) → IsPattern c.types t (row_of q) → compare (row_of q) k ≡ Fits → Differ s → (Among (register s) (below s) → ⊥) → ((z : ℕ) → Among z (below s) → MayRead f.registers r0 z) → OwnKind c.types root t k (register s) (m (register s)) → Seen r0 read (register s) → (names_any q ≡ true → is_binder q ≡ true → contains (register s) read ≡ true) → Below c.types root t k s read m → NamesLaid f at q s read mid more → Froms r0 read m → Quiet f at end m → mid ≤ end → Reads c f r0 (NamedRead q s) (Below c.types root t k s) (below s) at read m mid more
    names root t (BinderPattern b) k s at read m mid more end typed fit differ off may own known there parts h froms quiet le =
        reads_none c f r0 (NamedRead (BinderPattern b) s) (Below c.types root t k s) (below s) at read m mid more h.0 h.1 (λ e. there e refl) parts froms
    names root t (LiteralPattern i p) k s at read m mid more end typed fit differ off may own known there parts h froms quiet le =
        reads_none c f r0 (NamedRead (LiteralPattern i p) s) (Below c.types root t k s) (below s) at read m mid more h.0 h.1 tt parts froms
    names root t (ConstructorPattern u d n a p ps) (Open out) s at read m mid more end typed fit differ off may own known there parts h froms quiet le = absurd (open_fits (Rattle.lowering_relation.specs.match_knowledge.Known.is_in (Tag n) out) fit)
    names root t (ConstructorPattern u d n a p ps) (Is (Number j) ks) s at read m mid more end typed fit differ off may own known there parts h froms quiet le = absurd (true≢false (sym (if_fits (same_head (Tag n) (Number j)) (compare_all (rows_of ps) ks) fit).0))
    names root t (ConstructorPattern u d n a p NoPatterns) (Is (Tag l) ks) (At r fs) at read m mid more end typed fit differ off may own known there parts h froms quiet le =
        reads_none c f r0 (NamedRead (ConstructorPattern u d n a p NoPatterns) (At r fs)) (Below c.types root t (Is (Tag l) ks) (At r fs)) (all_in fs) at read m mid more h.0 h.1 tt parts froms
    names root t (ConstructorPattern u d n a p (MorePatterns q qs)) (Is (Tag l) ks) (At r fs) at read m mid more end typed fit differ off may own known there parts h froms quiet le =
        let ready = cell_ready root t n l q qs ks r (m r) (if_fits (n == l) (compare_all (rows_of (MorePatterns q qs)) ks) fit) (typed.1, typed.2, typed.3) own in
        all_names root (fields c.types t l) (fields c.types t l) (MorePatterns q qs) ks fs r 0 at read m mid more end ready.are ready.fit differ off may (fields_start c f r0 (fields c.types t l)) ready.known ready.rooted known parts h froms quiet le

    pub all_names : (root : Option ℕ) (all' ts : List ℕ) (ps : Patterns) (ks : Knowns) (ss : Spots) (r i at : ℕ) (read : List ℕ) (m : ℕ → Kind) (mid : ℕ) (more : List ℕ) (end : ℕ) → ArePatterns c.types ts (rows_of ps) → compare_all (rows_of ps) ks ≡ Fits → AllDiffer ss → (Among r (all_in ss) → ⊥) → ((z : ℕ) → Among z (all_in ss) → MayRead f.registers r0 z) → FieldsFrom c f r0 all' ts i → known_fields c.types (m r) ≡ all' → root_of r (m r) ≡ root → Seen r0 read r → AllBelow c.types root ts ks ss r i read m → NameAll f at ps ss r i read mid more → Froms r0 read m → Quiet f at end m → mid ≤ end → Reads c f r0 (AllNamedRead ps ss) (AllBelow c.types root ts ks ss r i) (all_in ss) at read m mid more
    all_names root all' ts NoPatterns ks ss r i at read m mid more end are fit differ off may from fs roots known parts h froms quiet le =
        reads_none c f r0 (AllNamedRead NoPatterns ss) (AllBelow c.types root ts ks ss r i) (all_in ss) at read m mid more h.0 h.1 tt parts froms
    all_names root all' ts (MorePatterns p ps) ks NoSpots r i at read m mid more end are fit differ off may from fs roots known parts h froms quiet le =
        reads_none c f r0 (AllNamedRead (MorePatterns p ps) NoSpots) (AllBelow c.types root ts ks NoSpots r i) [] at read m mid more h.0 h.1 tt parts froms
    all_names root all' [] (MorePatterns p ps) ks (MoreSpots s ss) r i at read m mid more end are fit differ off may from fs roots known parts h froms quiet le = absurd are
    all_names root all' (t ∷ ts) (MorePatterns p ps) NoKnowns (MoreSpots s ss) r i at read m mid more end are fit differ off may from fs roots known parts h froms quiet le = absurd parts
    all_names root all' (t ∷ ts) (MorePatterns p ps) (MoreKnowns k ks) (MoreSpots s ss) r i at read m mid more end are fit differ off may from fs roots known parts h froms quiet le =
        let high = name_all_end f h.0 ps ss r (suc i) h.1 mid more h.3 in
        let b = both_fits (compare (row_of p) k) (compare_all (rows_of ps) ks) fit in
        let o = part_names root t p k s r i at read m h.0 h.1 end differ.0 (λ e. off (inl (sym e))) (may (register s) (inl refl)) (ap (λ ts. slice_get ts i) fs ∙ fields_here c f r0 all' t ts i from) roots known parts.0 h.2 froms quiet (omega (arith, high, le))
        (λ mid' one l own' seen' there' parts' laid froms' quiet'. names root t p k s mid' one l h.0 h.1 end are.0 b.0 differ.3 differ.0 (λ z a. may z (in_head z s ss a)) own' seen' (λ e y. there') parts' laid froms' quiet' (omega (arith, high, le))) in
        let stays = o.others r (λ y. off (in_part r s ss y)) in
        let rest = all_names root all' ts ps ks ss r (suc i) h.0 h.1 o.following mid more end are.1 b.1 differ.4 (λ a. off (in_tail r s ss a)) (λ z a. may z (in_tail z s ss a)) (fields_next c f r0 all' t ts i from)
        (ap (known_fields c.types) stays.1 ∙ fs) (ap (root_of r) stays.1 ∙ roots) (seen_on read h.1 r o.kept known) (all_below_on c.types root ts ks ss r (suc i) read h.1 m o.following parts.1 (λ z a. o.others z (λ y. apart_head s ss z differ a y))) h.3 o.froms (came_quiet c f at h.0 end m o.following o.came quiet) le in
        joined root t ts p ps k ks s ss r i at read m h.0 h.1 mid more differ o rest
