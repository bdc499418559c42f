-- What is reported of the registers where a test failed, position by position.
use Rattle.std.proofs.Common.{◌≡◌, refl, sym, ap, ◌∙◌, arith, ℕ, zero, suc, ◌≤◌, Bool, true, false, List, [], ◌∷◌, ◌++◌, length, drop, Option, Some, None, slice_get, slice_set}
use Rattle.std.specs.Prelude.{if◌then◌else◌}
use Rattle.std.specs.declared.vec.Vec.{Vec}
use Rattle.std.specs.declared.alloc.Global.{Global}
use Rattle.fip_language.specs.Table.{Table}
use Rattle.cell_code.specs.declared.kind.Kind.{Kind}
use Rattle.lower_frame.specs.code_rules.Types.{count, numbers}
use Rattle.match_knowledge.specs.declared.heads.Head.{Head}
use Rattle.match_knowledge.specs.declared.knowledge.Knowledge.{Knowledge}
use Rattle.match_knowledge.specs.declared.knowledge.Knowledge.TheVariants as KV
use Rattle.match_knowledge.specs.declared.knowledge.Knowledge.TheOpen as KO
use Rattle.match_knowledge.specs.declared.knowledge.Knowledge.TheFolds.{fold-roll-Knowledge}
use Rattle.match_knowledge.specs.Known.{Known, Open, Is, Knowns, NoKnowns, MoreKnowns}
use Rattle.match_knowledge.specs.View.{known, known_step, knowns}
use Rattle.lower_frame.specs.lowering_relation.Spots as S
use Rattle.lower_frame.specs.lowering_relation.Reading.{contains}
use Rattle.lower_frame.specs.lowering_relation.Values.{Setting}
use Rattle.lower_frame.specs.lowering_relation.Sights.{kept, left}
use Rattle.lower_frame.specs.declared.spots.Spot.{Spot, out-Spot}
use Rattle.lower_frame.specs.Positions.{spot_of, spots_of, spot_at, past}
use Rattle.lower_frame.proofs.Counting.{numbers_next}
use Rattle.lower_parts.specs.Overlays.{may_be, part_reported, overlaid, overlaid_all, field_overlaid}
use Rattle.lower_parts.proofs.Folding.{fields_are, if_false, if_true}
use Rattle.fip_language.proofs.Facts.{append_none as none_more, drop_at_number as drop_at, same_some}
pub use Rattle.fip_language.proofs.Facts.{get_none as missing}
use Rattle.lower_parts.proofs.Folding.{spots_at as past_at}
use Rattle.match_knowledge.proofs.Steps.{no_knowns as knowns_past}

-- the constructors that are left

pub known_open : (hs : Vec Head Global) → known (KV.Open hs) ≡ Open hs.items
known_open hs = ap known (sym (KV.rolls-Open hs)) ∙ fold-roll-Knowledge Known known_step (KO.Open hs)

kept_more : (p : ℕ → Bool) (xs : List ℕ) (x : ℕ) → kept p (xs ++ x ∷ []) ≡ kept p xs ++ (if p x then x ∷ [] else [])
kept_more p [] x = refl
kept_more p (y ∷ xs) x = by (p y) (kept_more p xs x)
  where
    by : (b : Bool) → kept p (xs ++ x ∷ []) ≡ kept p xs ++ (if p x then x ∷ [] else []) → (if b then y ∷ kept p (xs ++ x ∷ []) else kept p (xs ++ x ∷ [])) ≡ (if b then y ∷ kept p xs else kept p xs) ++ (if p x then x ∷ [] else [])
    by true e = ap (λ z. y ∷ z) e
    by false e = e

up_to : (n : ℕ) → numbers 0 n ++ n ∷ [] ≡ numbers 0 (suc n)
up_to n = numbers_next (numbers 0 n) (numbers 0 n ++ n ∷ []) n (suc n) refl refl refl

next_kept : (p : ℕ → Bool) (n m : ℕ) → m ≡ suc n → kept p (numbers 0 m) ≡ kept p (numbers 0 n) ++ (if p n then n ∷ [] else [])
next_kept p n m e = ap (λ z. kept p (numbers 0 z)) e ∙ ap (kept p) (sym (up_to n)) ∙ kept_more p (numbers 0 n) n

pub kept_true : (p : ℕ → Bool) (xs ys : List ℕ) (n m : ℕ) → m ≡ suc n → xs ≡ kept p (numbers 0 n) → p n ≡ true → ys ≡ xs ++ n ∷ [] → ys ≡ kept p (numbers 0 m)
kept_true p xs ys n m e f g h = h ∙ ap (λ z. z ++ n ∷ []) f ∙ ap (λ (b : Bool). kept p (numbers 0 n) ++ (if b then n ∷ [] else [])) (sym g) ∙ sym (next_kept p n m e)

pub kept_false : (p : ℕ → Bool) (xs : List ℕ) (n m : ℕ) → m ≡ suc n → xs ≡ kept p (numbers 0 n) → p n ≡ false → xs ≡ kept p (numbers 0 m)
kept_false p xs n m e f g = f ∙ sym (none_more (kept p (numbers 0 n))) ∙ ap (λ (b : Bool). kept p (numbers 0 n) ++ (if b then n ∷ [] else [])) (sym g) ∙ sym (next_kept p n m e)

pub left_is : (w : Table) (t : ℕ) (k : Known) (xs : List ℕ) (n : ℕ) → xs ≡ kept (may_be k) (numbers 0 n) → n ≡ count w t → xs ≡ left w t k
left_is w t (Open out) xs n e f = e ∙ ap (λ z. kept (may_be (Open out)) (numbers 0 z)) f
left_is w t (Is h ks) xs n e f = e ∙ ap (λ z. kept (may_be (Is h ks)) (numbers 0 z)) f

-- places

drop_none : (ts : List ℕ) (i : ℕ) → slice_get ts i ≡ None → (drop i ts ≡ []) × (drop (suc i) ts ≡ [])
drop_none [] zero e = (refl, refl)
drop_none [] (suc i) e = (refl, refl)
drop_none (u ∷ ts) zero e = absurd (cc)
drop_none (u ∷ ts) (suc i) e = drop_none ts i e

knowns_at : (ks : List Knowledge) (i : ℕ) (k : Knowledge) → slice_get ks i ≡ Some k → knowns (drop i ks) ≡ MoreKnowns (known k) (knowns (drop (suc i) ks))
knowns_at [] i k e = absurd (cc)
knowns_at (l ∷ ks) zero k e = ap (λ x. MoreKnowns (known x) (knowns ks)) (same_some l k e)
knowns_at (l ∷ ks) (suc i) k e = knowns_at ks i k e

past_none : (ss : S.Spots) (i : ℕ) → spot_at ss i ≡ None → (past i ss ≡ S.NoSpots) × (past (suc i) ss ≡ S.NoSpots)
past_none S.NoSpots zero e = (refl, refl)
past_none S.NoSpots (suc i) e = (refl, refl)
past_none (S.MoreSpots t ss) zero e = absurd (cc)
past_none (S.MoreSpots t ss) (suc i) e = past_none ss i e

spots_missing : (ss : List Spot) (i : ℕ) → slice_get ss i ≡ None → spot_at (spots_of ss) i ≡ None
spots_missing [] i e = refl
spots_missing (t ∷ ss) zero e = absurd (cc)
spots_missing (t ∷ ss) (suc i) e = spots_missing ss i e

-- the position of a field that isn't there
pub field_missing : (s : Spot) (i : ℕ) → slice_get (out-Spot s).fields.items i ≡ None → spot_at (S.fields (spot_of s)) i ≡ None
field_missing s i e = ap (λ z. spot_at z i) (sym (fields_are s)) ∙ spots_missing (out-Spot s).fields.items i e

-- fields, one after another

module _ (s : Setting) (root : Option ℕ) (read : List ℕ) (r : ℕ) where
  without_spots : (ts : List ℕ) (ks : Knowns) (i : ℕ) (kinds : List Kind) → overlaid_all s root read ts ks S.NoSpots r i kinds ≡ kinds
  without_spots ts NoKnowns i kinds = refl
  without_spots [] (MoreKnowns k ks) i kinds = refl
  without_spots (t ∷ ts) (MoreKnowns k ks) i kinds = refl

  without_types : (ks : Knowns) (ps : S.Spots) (i : ℕ) (kinds : List Kind) → overlaid_all s root read [] ks ps r i kinds ≡ kinds
  without_types NoKnowns ps i kinds = refl
  without_types (MoreKnowns k ks) ps i kinds = refl

  pub without_knowns : (ts : List ℕ) (ks : List Knowledge) (ps : S.Spots) (n i : ℕ) (kinds : List Kind) → length ks ≤ n → overlaid_all s root read ts (knowns (drop n ks)) ps r i kinds ≡ kinds
  without_knowns ts ks ps n i kinds h = ap (λ z. overlaid_all s root read ts z ps r i kinds) (knowns_past ks n h)

  -- where a field has no type
  pub overlay_skips : (ts : List ℕ) (ks : List Knowledge) (ss : S.Spots) (i n : ℕ) (kinds : List Kind) → n ≡ suc i → slice_get ts i ≡ None → overlaid_all s root read (drop n ts) (knowns (drop n ks)) (past n ss) r n kinds ≡ overlaid_all s root read (drop i ts) (knowns (drop i ks)) (past i ss) r i kinds
  overlay_skips ts ks ss i n kinds e f =
      ap (λ z. overlaid_all s root read (drop z ts) (knowns (drop z ks)) (past z ss) r z kinds) e
      ∙ ap (λ z. overlaid_all s root read z (knowns (drop (suc i) ks)) (past (suc i) ss) r (suc i) kinds) (drop_none ts i f).1 ∙ without_types (knowns (drop (suc i) ks)) (past (suc i) ss) (suc i) kinds
      ∙ sym (ap (λ z. overlaid_all s root read z (knowns (drop i ks)) (past i ss) r i kinds) (drop_none ts i f).0 ∙ without_types (knowns (drop i ks)) (past i ss) i kinds)

  pub overlay_next : (ts : List ℕ) (ks : List Knowledge) (ss : S.Spots) (i n t : ℕ) (k : Knowledge) (kinds more : List Kind) → n ≡ suc i → slice_get ts i ≡ Some t → slice_get ks i ≡ Some k → more ≡ field_overlaid s root read t (known k) (spot_at ss i) r i kinds → overlaid_all s root read (drop n ts) (knowns (drop n ks)) (past n ss) r n more ≡ overlaid_all s root read (drop i ts) (knowns (drop i ks)) (past i ss) r i kinds
  overlay_next ts ks ss i n t k kinds more e f g h =
      ap (λ z. overlaid_all s root read (drop z ts) (knowns (drop z ks)) (past z ss) r z more) e ∙ by (spot_at ss i) refl h
      ∙ sym (ap (λ z. overlaid_all s root read z (knowns (drop i ks)) (past i ss) r i kinds) (drop_at ts i t f) ∙ ap (λ z. overlaid_all s root read (t ∷ drop (suc i) ts) z (past i ss) r i kinds) (knowns_at ks i k g))
    where
      by : (o : Option S.Spot) → spot_at ss i ≡ o → more ≡ field_overlaid s root read t (known k) o r i kinds → overlaid_all s root read (drop (suc i) ts) (knowns (drop (suc i) ks)) (past (suc i) ss) r (suc i) more ≡ overlaid_all s root read (t ∷ drop (suc i) ts) (MoreKnowns (known k) (knowns (drop (suc i) ks))) (past i ss) r i kinds
      by None x y =
          ap (λ z. overlaid_all s root read (drop (suc i) ts) (knowns (drop (suc i) ks)) z r (suc i) more) (past_none ss i x).1 ∙ without_spots (drop (suc i) ts) (knowns (drop (suc i) ks)) (suc i) more ∙ y
          ∙ sym (ap (λ z. overlaid_all s root read (t ∷ drop (suc i) ts) (MoreKnowns (known k) (knowns (drop (suc i) ks))) z r i kinds) (past_none ss i x).0)
      by (Some p) x y =
          ap (λ z. overlaid_all s root read (drop (suc i) ts) (knowns (drop (suc i) ks)) (past (suc i) ss) r (suc i) z) y
          ∙ sym (ap (λ z. overlaid_all s root read (t ∷ drop (suc i) ts) (MoreKnowns (known k) (knowns (drop (suc i) ks))) z r i kinds) (past_at ss i p x))

-- one field

module _ (s : Setting) (root : Option ℕ) (read : List ℕ) (t : ℕ) (k : Known) (r i : ℕ) (o : Option S.Spot) where
  pub field_none : (kinds : List Kind) → o ≡ None → kinds ≡ field_overlaid s root read t k o r i kinds
  field_none kinds e = sym (ap (λ z. field_overlaid s root read t k z r i kinds) e)

  pub field_skipped : (p : S.Spot) (kinds : List Kind) → o ≡ Some p → contains (S.register p) read ≡ false → kinds ≡ field_overlaid s root read t k o r i kinds
  field_skipped p kinds e f = sym (ap (λ z. field_overlaid s root read t k z r i kinds) e ∙ if_false (contains (S.register p) read) (overlaid s root read t k p (slice_set kinds (S.register p) (part_reported s root t k r i))) kinds f)

  pub field_reported : (p : S.Spot) (kinds more last : List Kind) → o ≡ Some p → contains (S.register p) read ≡ true → more ≡ slice_set kinds (S.register p) (part_reported s root t k r i) → last ≡ overlaid s root read t k p more → last ≡ field_overlaid s root read t k o r i kinds
  field_reported p kinds more last e f g h =
      h ∙ ap (overlaid s root read t k p) g
      ∙ sym (ap (λ z. field_overlaid s root read t k z r i kinds) e ∙ if_true (contains (S.register p) read) (overlaid s root read t k p (slice_set kinds (S.register p) (part_reported s root t k r i))) kinds f)
