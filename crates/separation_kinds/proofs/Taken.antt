-- Take: after it each register has what its kind says, and each cell is owned as often as before.
use Rattle.std.proofs.Common.{◌≡◌, inl, inr, ℕ, ◌+◌, Bool, true, false, ◌&&◌, not, List, [], ◌∷◌, length, Option, Some, None, refl, sym, ap, ap₂, ◌∙◌, true≢false, arith, nat_lt, if◌then◌else◌, ◌==◌}
use Rattle.std.specs.Prelude.{is_some}
use Rattle.machine_semantics.specs.fip_language.Table.{Table, is_scalar}
use Rattle.machine_semantics.specs.fip_language.Store.{Placed, Parts, uses, uses_of_all, word_of}
use Rattle.machine_semantics.specs.cell_code.declared.kind.Kind.{Kind}
use Rattle.machine_semantics.specs.cell_code.declared.kind.Kind.TheVariants.{Gone, Scalar, Owned, Lent, Credit}
use Rattle.machine_semantics.specs.Cells.{Store}
use Rattle.machine_semantics.specs.Trees.{Stands, StandAll}
use Rattle.machine_semantics.specs.Apart.{Holding, Nothing, Tree, holding_uses, owned_uses}
use Rattle.code_rules.specs.Types.{is_type, is_scalar_type, all, field_kind}
use Rattle.code_rules.specs.Kinds.{has, at, is_free, is_owned, is_lent_of, from_of, same_root}
use Rattle.code_rules.specs.Ranges.{are_below}
use Rattle.code_rules.specs.Asked.{are_places}
use Rattle.code_rules.specs.Changes.{forget}
use Rattle.code_rules.specs.Taking.{Part, part, is_field, is_heir_by, is_heir, IsReached, inherited, part_kind, fate, credit, ends, part_or, IsTaken}
use Rattle.separation_kinds.specs.Meanings.{part_in, part_of, Means, AreMeant, owned_by, sum_from}
use Rattle.separation_kinds.proofs.Basics.{pick, chosen, refused, apart, both, refuted, or_not, equal, equal_is, unequal_is, below, becomes, at_past, sum_set, sum_same}
use Rattle.separation_kinds.proofs.KindLemmas.{owned_within, free_uses, put}
use Rattle.separation_kinds.proofs.Changing.{recast}
use Rattle.separation_kinds.proofs.Shapes.{scalar_bare}
use Rattle.separation_kinds.proofs.Reaching.{same_tree, IsTakenFrom, leads_to, other_means}
use Rattle.separation_kinds.proofs.Takes.{field_means, tree_or, word_or, uses_or, by_part, part_facts, part_dest, no_part, places_free, has_below, sum_parts, Plain, parts_sum}
use Rattle.machine_semantics.proofs.cell_code.fip_base.fip_language.Facts.{none_seen as none_is, some_of as some_is}

-- a Take: register r owns tree y, whose parts ps have types ts, and go into the registers ds
pub record Takes (tb : Table) (s : Store) (ks : List Kind) (hs : ℕ → Holding) (r : ℕ) (ds ts : List ℕ) (left : List Kind) (y : Placed) (ps : Parts) : Type 0 where
  pub owner : is_owned (at ks r) ≡ true
  pub holds : hs r ≡ Tree y
  pub parts : (i : ℕ) → part_of y i ≡ part_in ps i
  pub stand : StandAll tb s ts ps
  pub number : length ds ≡ length ts
  pub places : are_places ks ds ≡ true
  pub off : has ds r ≡ false
  pub within : are_below (length ks) ds ≡ true
  pub taken : IsTaken tb ks r ds ts left

-- what registers hold after it, where r holds hr
abbrev pub held_after : (ℕ → Holding) → ℕ → List ℕ → List ℕ → Placed → Holding → ℕ → Holding
held_after hs r ds ts y hr q = by_part (λ j. tree_or (part_of y j)) (part ds ts q) (put r hr hs q)

abbrev pub words_after : (ℕ → ℕ) → List ℕ → List ℕ → Placed → ℕ → ℕ
words_after ws ds ts y q = by_part (λ j. word_or (part_of y j)) (part ds ts q) (ws q)

-- the kinds after it
abbrev pub kinds_after : Table → List Kind → ℕ → List ℕ → List ℕ → (ℕ → Option ℕ) → ℕ → Kind
kinds_after tb ks r ds ts reached q = part_or tb r (at ks q) (part ds ts q) (if q == r then credit (length ds) else forget (ends tb ks r (part ds ts) (length ds) reached) (fate (reached q) r (at ks q)))

record IsHeir (tb : Table) (r : ℕ) (k : Kind) (o : Option Part) : Type 0 where
  part : Part
  is : o ≡ Some part
  tree : is_scalar_type tb part.ty ≡ false
  field : is_field r part.field (from_of k) ≡ true

heir_some : (tb : Table) (r : ℕ) (k : Kind) (o : Option Part) → is_heir_by tb r k o ≡ true → IsHeir tb r k o
heir_some tb r k None e = absurd (true≢false (sym e))
heir_some tb r k (Some p) e =
    let a = both (not (is_scalar_type tb p.ty)) (is_field r p.field (from_of k)) e in
    record { part = p; is = refl; tree = refuted (is_scalar_type tb p.ty) a.0; field = a.1 }

-- a borrowed register that came from field i of register r, the part i of its tree y
record IsLentPart (tb : Table) (s : Store) (y : Placed) (i : ℕ) (k : Kind) (w : ℕ) (h : Holding) : Type 0 where
  owned : is_owned (inherited k) ≡ true
  tree : Placed
  holds : h ≡ Tree tree
  part : part_of y i ≡ Some tree
  means : (below : List Placed) (ls : ℕ → Kind) (gs : ℕ → Holding) → Means tb s below ls gs (inherited k) w h
  uses : (q : ℕ) → owned_uses q (inherited k) h ≡ uses q tree

lent_part : (tb : Table) (s : Store) (below : List Placed) (ks : ℕ → Kind) (hs : ℕ → Holding) (r i : ℕ) (y : Placed) (k : Kind) (w : ℕ) (h : Holding) → hs r ≡ Tree y → is_field r i (from_of k) ≡ true → Means tb s below ks hs k w h → IsLentPart tb s y i k w h
lent_part tb s below ks hs r i y Gone w h e f m = absurd (true≢false (sym f))
lent_part tb s below ks hs r i y (Scalar t) w h e f m = absurd (true≢false (sym f))
lent_part tb s below ks hs r i y (Owned t cs) w h e f m = absurd (true≢false (sym f))
lent_part tb s below ks hs r i y (Credit n) w h e f m = absurd (true≢false (sym f))
lent_part tb s below ks hs r i y (Lent t cs root None) w h e f m = absurd (true≢false (sym f))
lent_part tb s below ks hs r i y (Lent t cs root (Some from)) w h e f m =
    let a = both (from.register == r) (from.field == i) f in
    let same : m.framed.tree ≡ y = same_tree m.framed.tree y (sym m.framed.holds ∙ ap hs (equal from.register r a.0) ∙ e) in
    record {
      owned = refl;
      tree = m.tree;
      holds = m.holds;
      part = ap₂ part_of (sym same) (sym (equal from.field i a.1)) ∙ m.framed.part;
      means = λ below ls gs. record { tree = m.tree; holds = m.holds; is = m.is; top = m.top };
      uses = λ q. ap (holding_uses q) m.holds;
    }

-- the kind of a register that gets a part
pub record GetsPart (tb : Table) (s : Store) (y : Placed) (k : Kind) (p : Part) : Type 0 where
  pub tree : Placed
  pub part : part_of y p.field ≡ Some tree
  pub means : (below : List Placed) (ls : ℕ → Kind) (gs : ℕ → Holding) → Means tb s below ls gs k (word_of tree) (Tree tree)
  pub uses : (q : ℕ) → owned_uses q k (Tree tree) ≡ uses q tree

pub field_uses : (tb : Table) (s : Store) (t : ℕ) (x : Placed) (q : ℕ) → Stands tb s t x → owned_uses q (field_kind tb t) (Tree x) ≡ uses q x
field_uses tb s t x q g = pick (λ k. owned_uses q k (Tree x) ≡ uses q x) (is_scalar_type tb t) (Scalar t) (Owned t (all tb t)) (λ e. sym (scalar_bare tb s t x (both (is_type tb t) (is_scalar tb t) e).1 g q)) (λ e. refl)

inherits : (tb : Table) (s : Store) (y : Placed) (i : ℕ) (t : ℕ) (k : Kind) (w : ℕ) (h : Holding) (x : Placed) (p : Part) → p.field ≡ i → part_of y i ≡ Some x → IsLentPart tb s y i k w h → GetsPart tb s y (inherited k) p
inherits tb s y i t Gone w h x p f e g = absurd (true≢false (sym g.owned))
inherits tb s y i t (Scalar u) w h x p f e g = absurd (true≢false (sym g.owned))
inherits tb s y i t (Credit n) w h x p f e g = absurd (true≢false (sym g.owned))
inherits tb s y i t (Owned u cs) w h x p f e g =
    let m = g.means [] (λ q. Gone) (λ q. Nothing) in
    let same : m.tree ≡ g.tree = same_tree m.tree g.tree (sym m.holds ∙ g.holds) in
    record {
      tree = m.tree;
      part = ap (part_of y) f ∙ g.part ∙ ap Some (sym same);
      means = λ below ls gs. record { tree = m.tree; holds = refl; is = record { word = refl; stands = m.is.stands }; top = m.top };
      uses = λ q. refl;
    }
inherits tb s y i t (Lent u cs root from) w h x p f e g =
    let m = g.means [] (λ q. Gone) (λ q. Nothing) in
    let same : m.tree ≡ g.tree = same_tree m.tree g.tree (sym m.holds ∙ g.holds) in
    record {
      tree = m.tree;
      part = ap (part_of y) f ∙ g.part ∙ ap Some (sym same);
      means = λ below ls gs. record { tree = m.tree; holds = refl; is = record { word = refl; stands = m.is.stands }; top = m.top };
      uses = λ q. refl;
    }

pub gets_part : (tb : Table) (s : Store) (below : List Placed) (ks : List Kind) (ws : ℕ → ℕ) (hs : ℕ → Holding) (r : ℕ) (ds ts : List ℕ) (left : List Kind) (y : Placed) (ps : Parts) (q : ℕ) (p : Part) → Takes tb s ks hs r ds ts left y ps → AreMeant tb s below (at ks) ws hs → part ds ts q ≡ Some p → GetsPart tb s y (part_kind tb r (at ks q) p) p
gets_part tb s below ks ws hs r ds ts left y ps q p t m e =
    let f = part_facts tb s 0 ds ts ps q p e t.stand in
    let index : f.index ≡ p.field = (let z = f.field in omega arith) in
    let is : part_of y p.field ≡ Some f.tree = t.parts p.field ∙ ap (part_in ps) (sym index) ∙ f.is in
    let stands = f.stands in
    pick (λ k. GetsPart tb s y k p) (is_scalar_type tb p.ty) (Scalar p.ty) (if is_field r p.field (from_of (at ks q)) then inherited (at ks q) else field_kind tb p.ty)
    (λ scalar. record {
      tree = f.tree;
      part = is;
      means = λ below ls gs. record { tree = f.tree; holds = refl; is = record { word = refl; stands = stands }; bare = scalar_bare tb s p.ty f.tree (both (is_type tb p.ty) (is_scalar tb p.ty) scalar).1 stands };
      uses = λ q. sym (scalar_bare tb s p.ty f.tree (both (is_type tb p.ty) (is_scalar tb p.ty) scalar).1 stands q);
    })
    (λ tree. pick (λ k. GetsPart tb s y k p) (is_field r p.field (from_of (at ks q))) (inherited (at ks q)) (field_kind tb p.ty)
    (λ field. inherits tb s y p.field p.ty (at ks q) (ws q) (hs q) f.tree p refl is (lent_part tb s below (at ks) hs r p.field y (at ks q) (ws q) (hs q) t.holds field (m.each q)))
    (λ no_field. record {
      tree = f.tree;
      part = is;
      means = λ below ls gs. field_means tb s below ls gs p.ty (word_of f.tree) f.tree (record { word = refl; stands = stands });
      uses = λ q. field_uses tb s p.ty f.tree q stands;
    }))

-- ---- the registers before and after it

heir_owns : (tb : Table) (s : Store) (below : List Placed) (ks : List Kind) (ws : ℕ → ℕ) (hs : ℕ → Holding) (r : ℕ) (ds ts : List ℕ) (left : List Kind) (y : Placed) (ps : Parts) (hr : Holding) (reached : ℕ → Option ℕ) (q : ℕ) → Takes tb s ks hs r ds ts left y ps → AreMeant tb s below (at ks) ws hs → is_heir tb ks r (part ds ts) q ≡ true → (is_owned (kinds_after tb ks r ds ts reached q) ≡ true) × (held_after hs r ds ts y hr q ≡ hs q)
heir_owns tb s below ks ws hs r ds ts left y ps hr reached q t m e =
    let h = heir_some tb r (at ks q) (part ds ts q) e in
    let l = lent_part tb s below (at ks) hs r h.part.field y (at ks q) (ws q) (hs q) t.holds h.field (m.each q) in
    let rest : Kind = if q == r then credit (length ds) else forget (ends tb ks r (part ds ts) (length ds) reached) (fate (reached q) r (at ks q)) in (
      ap (λ o. is_owned (part_or tb r (at ks q) o rest)) h.is
          ∙ ap is_owned (refused (is_scalar_type tb h.part.ty) (Scalar h.part.ty) (if is_field r h.part.field (from_of (at ks q)) then inherited (at ks q) else field_kind tb h.part.ty) h.tree)
          ∙ ap is_owned (chosen (is_field r h.part.field (from_of (at ks q))) (inherited (at ks q)) (field_kind tb h.part.ty) h.field)
          ∙ l.owned,
      ap (λ o. by_part (λ j. tree_or (part_of y j)) o (put r hr hs q)) h.is ∙ ap tree_or l.part ∙ sym l.holds,
    )

pub is_taken_from : (tb : Table) (s : Store) (below : List Placed) (ks : List Kind) (ws : ℕ → ℕ) (hs : ℕ → Holding) (r : ℕ) (ds ts : List ℕ) (left : List Kind) (y : Placed) (ps : Parts) (hr : Holding) (reached : ℕ → Option ℕ) → ((q : ℕ) → IsReached ks (is_heir tb ks r (part ds ts)) q (reached q)) → Takes tb s ks hs r ds ts left y ps → AreMeant tb s below (at ks) ws hs → IsTakenFrom ks (kinds_after tb ks r ds ts reached) hs (held_after hs r ds ts y hr) r (λ q. is_some (part ds ts q)) (is_heir tb ks r (part ds ts)) (ends tb ks r (part ds ts) (length ds) reached) reached
is_taken_from tb s below ks ws hs r ds ts left y ps hr reached reaches t m = record {
  owner = t.owner;
  free = λ q d. let p = some_is (part ds ts q) d in places_free ks ds q t.places (part_dest 0 ds ts q p.0 p.1);
  heir_dest = λ q h. let p = heir_some tb r (at ks q) (part ds ts q) h in ap is_some p.is;
  heir_owns = λ q h. heir_owns tb s below ks ws hs r ds ts left y ps hr reached q t m h;
  other = λ q d off.
      let none = none_is (part ds ts q) d in
      let gone : Kind = forget (ends tb ks r (part ds ts) (length ds) reached) (fate (reached q) r (at ks q)) in (
        ap (λ o. part_or tb r (at ks q) o (if q == r then credit (length ds) else gone)) none ∙ refused (q == r) (credit (length ds)) gone off,
        ap (λ o. by_part (λ j. tree_or (part_of y j)) o (put r hr hs q)) none ∙ refused (q == r) hr (hs q) off,
      );
  ends_dest = λ q d n. chosen (is_some (part ds ts q)) (not (is_heir tb ks r (part ds ts) q)) (if q == r then length ds == 0 else is_lent_of r (at ks q) && not (is_some (reached q))) d ∙ ap not n;
  reaches = reaches;
}

-- the registers after it have what these kinds say
after_means : (tb : Table) (s : Store) (below : List Placed) (ks : List Kind) (ws : ℕ → ℕ) (hs : ℕ → Holding) (r : ℕ) (ds ts : List ℕ) (left : List Kind) (y : Placed) (ps : Parts) (hr : Holding) (reached : ℕ → Option ℕ) → ((q : ℕ) → IsReached ks (is_heir tb ks r (part ds ts)) q (reached q)) → Takes tb s ks hs r ds ts left y ps → ((ls : ℕ → Kind) (gs : ℕ → Holding) → Means tb s below ls gs (credit (length ds)) (ws r) hr) → AreMeant tb s below (at ks) ws hs → (q : ℕ) (o : Option Part) → part ds ts q ≡ o → Means tb s below (kinds_after tb ks r ds ts reached) (held_after hs r ds ts y hr) (part_or tb r (at ks q) o (if q == r then credit (length ds) else forget (ends tb ks r (part ds ts) (length ds) reached) (fate (reached q) r (at ks q)))) (by_part (λ j. word_or (part_of y j)) o (ws q)) (by_part (λ j. tree_or (part_of y j)) o (put r hr hs q))
after_means tb s below ks ws hs r ds ts left y ps hr reached reaches t c m q None e =
    let ls : ℕ → Kind = kinds_after tb ks r ds ts reached in
    let gs : ℕ → Holding = held_after hs r ds ts y hr in
    let gone : Kind = forget (ends tb ks r (part ds ts) (length ds) reached) (fate (reached q) r (at ks q)) in
    elim (or_not (q == r)) as (λ v. Means tb s below ls gs (if q == r then credit (length ds) else gone) (ws q) (put r hr hs q)) [
      | inl same ↦ rw (chosen (q == r) (credit (length ds)) gone same, chosen (q == r) hr (hs q) same, equal q r same) (c ls gs)
      | inr off ↦ rw (refused (q == r) (credit (length ds)) gone off, refused (q == r) hr (hs q) off)
          (other_means tb s below ks ws ls hs gs r (λ q. is_some (part ds ts q)) (is_heir tb ks r (part ds ts)) (ends tb ks r (part ds ts) (length ds) reached) reached (at ks q) (ws q) (hs q) (reached q)
          (is_taken_from tb s below ks ws hs r ds ts left y ps hr reached reaches t m) m (leads_to ks (is_heir tb ks r (part ds ts)) q (reached q) (reaches q)) (m.each q))
    ]
after_means tb s below ks ws hs r ds ts left y ps hr reached reaches t c m q (Some p) e =
    let g = gets_part tb s below ks ws hs r ds ts left y ps q p t m e in
    rw g.part (g.means below (kinds_after tb ks r ds ts reached) (held_after hs r ds ts y hr))

at_left : (tb : Table) (s : Store) (ks : List Kind) (hs : ℕ → Holding) (r : ℕ) (ds ts : List ℕ) (left : List Kind) (y : Placed) (ps : Parts) (t : Takes tb s ks hs r ds ts left y ps) (q : ℕ) → at left q ≡ kinds_after tb ks r ds ts t.taken.0 q
at_left tb s ks hs r ds ts left y ps t q =
    let reached = t.taken.0 in
    let there = owned_within ks r t.owner in
    ap (λ ls. at ls q) t.taken.2 ∙ becomes ks (kinds_after tb ks r ds ts reached) (λ q past.
    let no_dest : has ds q ≡ false = elim (or_not (has ds q)) as (λ v. has ds q ≡ false) [
      | inl h ↦ let z = has_below (length ks) ds q t.within h in absurd (omega arith)
      | inr n ↦ n
    ] in
    let gone : Kind = forget (ends tb ks r (part ds ts) (length ds) reached) (fate (reached q) r (at ks q)) in
    ap (λ o. part_or tb r (at ks q) o (if q == r then credit (length ds) else gone)) (no_part 0 ds ts q no_dest)
    ∙ refused (q == r) (credit (length ds)) gone (unequal_is q r (λ e. absurd (omega arith)))
    ∙ ap (λ k. forget (ends tb ks r (part ds ts) (length ds) reached) (fate (reached q) r k)) (at_past ks q past)
    ∙ past_gone (ends tb ks r (part ds ts) (length ds) reached) (reached q) r) q
  where
    past_gone : (e : ℕ → Bool) (o : Option ℕ) (r : ℕ) → forget e (fate o r Gone) ≡ Gone
    past_gone e None r = refl
    past_gone e (Some d) r = refl

pub taken_meant : (tb : Table) (s : Store) (below : List Placed) (ks : List Kind) (ws : ℕ → ℕ) (hs : ℕ → Holding) (r : ℕ) (ds ts : List ℕ) (left : List Kind) (y : Placed) (ps : Parts) (hr : Holding) → Takes tb s ks hs r ds ts left y ps → ((ls : ℕ → Kind) (gs : ℕ → Holding) → Means tb s below ls gs (credit (length ds)) (ws r) hr) → AreMeant tb s below (at ks) ws hs → AreMeant tb s below (at left) (words_after ws ds ts y) (held_after hs r ds ts y hr)
taken_meant tb s below ks ws hs r ds ts left y ps hr t c m = recast tb s below (kinds_after tb ks r ds ts t.taken.0) (at left) (words_after ws ds ts y) (held_after hs r ds ts y hr) (at_left tb s ks hs r ds ts left y ps t) (record {
  each = λ q. after_means tb s below ks ws hs r ds ts left y ps hr t.taken.0 t.taken.1 t c m q (part ds ts q) refl;
})

-- ---- counts

uses_fate : (q : ℕ) (e : ℕ → Bool) (o : Option ℕ) (r : ℕ) (k : Kind) (h : Holding) → owned_uses q (forget e (fate o r k)) h ≡ owned_uses q k h
uses_fate q e None r Gone h = refl
uses_fate q e None r (Scalar t) h = refl
uses_fate q e None r (Owned t cs) h = refl
uses_fate q e None r (Lent t cs root from) h = pick (λ k. owned_uses q (forget e k) h ≡ 0) (same_root root (Some r)) Gone (Lent t cs root from) (λ b. refl) (λ b. refl)
uses_fate q e None r (Credit n) h = refl
uses_fate q e (Some d) r Gone h = refl
uses_fate q e (Some d) r (Scalar t) h = refl
uses_fate q e (Some d) r (Owned t cs) h = refl
uses_fate q e (Some d) r (Lent t cs root from) h = refl
uses_fate q e (Some d) r (Credit n) h = refl

after_uses : (i : ℕ) (tb : Table) (s : Store) (below : List Placed) (ks : List Kind) (ws : ℕ → ℕ) (hs : ℕ → Holding) (r : ℕ) (ds ts : List ℕ) (left : List Kind) (y : Placed) (ps : Parts) (hr : Holding) (reached : ℕ → Option ℕ) → Takes tb s ks hs r ds ts left y ps → AreMeant tb s below (at ks) ws hs → (q : ℕ) (o : Option Part) → part ds ts q ≡ o → owned_uses i (part_or tb r (at ks q) o (if q == r then credit (length ds) else forget (ends tb ks r (part ds ts) (length ds) reached) (fate (reached q) r (at ks q)))) (by_part (λ j. tree_or (part_of y j)) o (put r hr hs q)) ≡ by_part (λ j. uses_or i (part_of y j)) o (put r (owned_uses i (credit (length ds)) hr) (λ q. owned_uses i (at ks q) (hs q)) q)
after_uses i tb s below ks ws hs r ds ts left y ps hr reached t m q None e =
    let gone : Kind = forget (ends tb ks r (part ds ts) (length ds) reached) (fate (reached q) r (at ks q)) in
    elim (or_not (q == r)) as (λ v. owned_uses i (if q == r then credit (length ds) else gone) (put r hr hs q) ≡ put r (owned_uses i (credit (length ds)) hr) (λ q. owned_uses i (at ks q) (hs q)) q) [
      | inl same ↦ ap₂ (owned_uses i) (chosen (q == r) (credit (length ds)) gone same) (chosen (q == r) hr (hs q) same) ∙ sym (chosen (q == r) (owned_uses i (credit (length ds)) hr) (owned_uses i (at ks q) (hs q)) same)
      | inr off ↦ ap₂ (owned_uses i) (refused (q == r) (credit (length ds)) gone off) (refused (q == r) hr (hs q) off) ∙ uses_fate i (ends tb ks r (part ds ts) (length ds) reached) (reached q) r (at ks q) (hs q) ∙ sym (refused (q == r) (owned_uses i (credit (length ds)) hr) (owned_uses i (at ks q) (hs q)) off)
    ]
after_uses i tb s below ks ws hs r ds ts left y ps hr reached t m q (Some p) e =
    let g = gets_part tb s below ks ws hs r ds ts left y ps q p t m e in
    ap (λ o. owned_uses i (part_kind tb r (at ks q) p) (tree_or o)) g.part ∙ g.uses i ∙ sym (ap (uses_or i) g.part)

pub plain_places : (i : ℕ) (ks : List Kind) (hs : ℕ → Holding) (r n : ℕ) (ds : List ℕ) → are_places ks ds ≡ true → has ds r ≡ false → are_below (length ks) ds ≡ true → Plain (put r n (λ q. owned_uses i (at ks q) (hs q))) (length ks) ds
plain_places i ks hs r n [] p off b = tt
plain_places i ks hs r n (d ∷ ds) p off b =
    let a = both (is_free (at ks d)) (not (has ds d) && are_places ks ds) p in
    let c = both (not (has ds d)) (are_places ks ds) a.1 in
    let e = both (nat_lt d (length ks)) (are_below (length ks) ds) b in
    let here : (d == r) ≡ false = elim (or_not (d == r)) as (λ v. (d == r) ≡ false) [ inl y ↦ apart (has (d ∷ ds) r) (rw y refl) off | inr z ↦ z ] in
    let rest : has ds r ≡ false = elim (or_not (has ds r)) as (λ v. has ds r ≡ false) [ inl y ↦ apart (has (d ∷ ds) r) (rw (here, y) refl) off | inr z ↦ z ] in (
      refused (d == r) n (owned_uses i (at ks d) (hs d)) here ∙ free_uses i (at ks d) (hs d) a.0,
      below d (length ks) e.0,
      refuted (has ds d) c.0,
      plain_places i ks hs r n ds c.1 rest e.1,
    )

pub count_taken : (i : ℕ) (tb : Table) (s : Store) (below : List Placed) (ks : List Kind) (ws : ℕ → ℕ) (hs : ℕ → Holding) (r : ℕ) (ds ts : List ℕ) (left : List Kind) (y : Placed) (ps : Parts) (hr : Holding) → Takes tb s ks hs r ds ts left y ps → AreMeant tb s below (at ks) ws hs → uses i y ≡ owned_uses i (credit (length ds)) hr + uses_of_all i ps → owned_uses i (at ks r) (hs r) ≡ uses i y → owned_by i (at left) (held_after hs r ds ts y hr) (length ks) ≡ owned_by i (at ks) hs (length ks)
count_taken i tb s below ks ws hs r ds ts left y ps hr t m split own =
    let n : ℕ = length ks in
    let g : ℕ → ℕ = λ q. owned_uses i (at ks q) (hs q) in
    let c : ℕ = owned_uses i (credit (length ds)) hr in
    let h : ℕ → ℕ = put r c g in
    let u : ℕ → ℕ = λ j. uses_or i (part_of y j) in
    let there = owned_within ks r t.owner in
    let first : owned_by i (at left) (held_after hs r ds ts y hr) n ≡ sum_from (λ q. by_part u (part ds ts q) (h q)) 0 n = sum_same (λ q. owned_uses i (at left q) (held_after hs r ds ts y hr q)) (λ q. by_part u (part ds ts q) (h q)) 0 n (λ q low high. ap (λ k. owned_uses i k (held_after hs r ds ts y hr q)) (at_left tb s ks hs r ds ts left y ps t q) ∙ after_uses i tb s below ks ws hs r ds ts left y ps hr t.taken.0 t m q (part ds ts q) refl) in
    let second : sum_from (λ q. by_part u (part ds ts q) (h q)) 0 n ≡ sum_from h 0 n + sum_from u 0 (length ds) = parts_sum u h n 0 ds ts t.number (plain_places i ks hs r c ds t.places t.off t.within) in
    let third : sum_from h 0 n + g r ≡ sum_from g 0 n + h r = sum_set h g 0 n r (omega arith) (omega arith) (λ q off. refused (q == r) c (g q) (unequal_is q r off)) in
    let here : h r ≡ c = chosen (r == r) c (g r) (equal_is r r refl) in
    let parts : sum_from u 0 (length ds) ≡ uses_of_all i ps = ap (λ k. sum_from u 0 k) t.number ∙ sum_same u (λ j. uses_or i (part_in ps j)) 0 (length ts) (λ j low high. ap (uses_or i) (t.parts j)) ∙ sum_parts i tb s ts ps t.stand in
    omega arith
