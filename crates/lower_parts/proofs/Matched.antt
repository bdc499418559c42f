-- What the parts of the lowering of a match have laid out, from what their calls say: a clause's start, where its body
-- ends, and the place where clauses meet.
use Rattle.std.proofs.Common.{◌≡◌, refl, sym, ap, ◌∙◌, subst, arith, ℕ, suc, ◌+◌, ◌≤◌, Bool, true, false, List, [], ◌∷◌, ◌++◌, length, length-append, Option, Some, None, slice_get, get_or}
use Rattle.std.specs.Prelude.{◌||◌, max, if◌then◌else◌}
use Rattle.fip_language.specs.Table.{Table}
use Rattle.fip_trees.specs.declared.program.Binder.{Binder}
use Rattle.fip_trees.specs.Tree.{Pattern, BinderPattern, LiteralPattern, ConstructorPattern, Patterns, NoPatterns, MorePatterns}
use Rattle.lower_frame.specs.lowering_relation.declared.held.Held.TheVariants as H
use Rattle.lower_frame.specs.lowering_relation.Known.{Known, holding, naming}
use Rattle.lower_frame.specs.lowering_relation.Values.{Setting, is_scalar}
use Rattle.lower_frame.specs.lowering_relation.Written.{Written, size, Extends, IsAt}
use Rattle.lower_frame.specs.lowering_relation.Landing.{Side}
use Rattle.lower_frame.specs.lowering_relation.Opening.{is_named}
use Rattle.lower_frame.specs.lowering_relation.Spots.{Spot, At, Spots, NoSpots, MoreSpots}
use Rattle.lower_frame.specs.lowering_relation.Entering.{unnaming, variable_held, with_variable, with_cell, entering, entering_all, root_of, spent_if, entering_root}
use Rattle.lower_frame.specs.lowering_relation.Joins.{Met}
use Rattle.lower_frame.specs.lowering_relation.Matches.{wide}
use Rattle.lower_frame.specs.Frames.{kinds_reported}
use Rattle.lower_frame.specs.Labels.{telling}
use Rattle.lower_frame.specs.Positions.{reaching, spot_of}
use Rattle.lower_frame.proofs.Meeting.{met_accounted, met_fewer}
use Rattle.lower_parts.specs.declared.choice.Choice.{Choice}
use Rattle.lower_parts.specs.declared.match_state.Matching.{Matching}
use Rattle.lower_parts.specs.Scenes.{patterns_of}
use Rattle.lower_parts.specs.Chosen.{ChoosesLaid}
use Rattle.lower_parts.specs.Clauses.{AddsPattern}
use Rattle.lower_parts.specs.Matches.{StartsLaid, JoinsLaid, MeetsLaid}

-- each clause has an entry

pub entries_next : (c d : Choice) (q : Pattern) (a b : ℕ) → AddsPattern c d q a b → length d.entries.items ≡ suc (length c.entries.items) → length c.entries.items ≡ length (patterns_of c) → length d.entries.items ≡ length (patterns_of d)
entries_next c d q a b h e f = let n : length (patterns_of d) ≡ length (patterns_of c ++ q ∷ []) = ap length h.patterns in omega (arith, n, length-append (patterns_of c) (q ∷ []), e, f)

pub entries_first : (c d : Choice) (q : Pattern) (a b : ℕ) → AddsPattern c d q a b → length d.entries.items ≡ suc (length c.entries.items) → c.entries.items ≡ [] → patterns_of c ≡ [] → length d.entries.items ≡ length (patterns_of d)
entries_first c d q a b h e f g = entries_next c d q a b h e (ap length f ∙ sym (ap length g))

-- a clause takes no register into use when its body begins

module _ (s : Setting) (takes : Bool) (root : Option ℕ) where
  variable_next : (b : Binder) (r : ℕ) (k : Known) → (with_variable s takes root b r k).next ≡ k.next
  variable_next b r k = by (takes || is_named b)
    where
      by : (y : Bool) → (if y then holding (naming k b.number r) r (variable_held s takes root b.ty) else unnaming k b.number).next ≡ k.next
      by true = refl
      by false = refl

  cell_next : (y : Bool) (t d : ℕ) (ps : Patterns) (r : ℕ) (k : Known) → (with_cell s y t d ps r k).next ≡ k.next
  cell_next false t d ps r k = refl
  cell_next true t d NoPatterns r k = by (is_scalar s t)
    where
      by : (z : Bool) → (if z then k else holding k r (H.Bare t d)).next ≡ k.next
      by true = refl
      by false = refl
  cell_next true t d (MorePatterns p ps) r k = refl

  mutual
    entering_next : (q : Pattern) (p : Spot) (k : Known) → (entering s takes root q p k).next ≡ k.next
    entering_next (BinderPattern b) (At r fs) k = variable_next b r k
    entering_next (LiteralPattern i a) (At r fs) k = refl
    entering_next (ConstructorPattern t d c m a ps) (At r fs) k = all_next ps fs (with_cell s takes t c ps r k) ∙ cell_next takes t c ps r k

    all_next : (ps : Patterns) (ss : Spots) (k : Known) → (entering_all s takes root ps ss k).next ≡ k.next
    all_next NoPatterns ss k = refl
    all_next (MorePatterns p ps) NoSpots k = refl
    all_next (MorePatterns p ps) (MoreSpots z ss) k = all_next ps ss (entering s takes root p z k) ∙ entering_next p z k

spent_next : (takes : Bool) (r : ℕ) (k : Known) → (spent_if takes r k).next ≡ k.next
spent_next true r k = refl
spent_next false r k = refl

pub root_next : (s : Setting) (takes : Bool) (q : Pattern) (p : Spot) (k : Known) → (entering_root s takes q p k).next ≡ k.next
root_next s takes (BinderPattern b) (At r fs) k = refl
root_next s takes (LiteralPattern i a) (At r fs) k = refl
root_next s takes (ConstructorPattern t d c m a ps) (At r fs) k =
    entering_next s takes (root_of r (get_or k.held r H.Nothing)) (ConstructorPattern t d c m a ps) (At r fs) (spent_if takes r k) ∙ spent_next takes r k

next_of : (k l : Known) → k ≡ l → k.next ≡ l.next
next_of k l e = ap (λ (x : Known). x.next) e

-- the tests of a clause, and its body's label

pub starts_laid : (s s' : Setting) (tb : Table) (g : Matching) (q q' : Pattern) (i label : ℕ) (k : Known) (v chosen shown w : Written) (ds es : List Side) (copied resumed tested opened l : Known) → s' ≡ s → tb ≡ s.types → q ≡ q' → ChoosesLaid s resumed.held g.choice i v ds chosen es true → (length g.choice.rows.items ≤ suc i → es ≡ []) → copied ≡ g.entry → resumed ≡ reaching copied resumed.next → resumed.next ≡ max k.next copied.next → tested ≡ resumed → opened ≡ entering_root s' g.choice.takes q' (spot_of g.choice.root) tested → shown ≡ chosen → l ≡ wide opened → slice_get g.choice.entries.items i ≡ Some label → Extends shown w → w.instrs ≡ shown.instrs → IsAt w label (size shown) → w.maps ≡ telling (size shown) (kinds_reported tb l.held) shown.maps → StartsLaid s g q i k v ds l w es
starts_laid s s' tb g q q' i label k v chosen shown w ds es copied resumed tested opened l same types qs choose all cp whole more test enters show known there ext instrs at maps = record {
  chosen = chosen;
  chooses = subst (λ hs. ChoosesLaid s hs g.choice i v ds chosen es true) (ap (λ (x : Known). x.held) (whole ∙ ap (λ x. reaching x resumed.next) cp)) choose;
  all = all;
  next = up ∙ more ∙ ap (λ (x : Known). max k.next x.next) cp;
  known = known ∙ ap wide is ∙ ap (λ n. wide (entering_root s g.choice.takes q (spot_of g.choice.root) (reaching g.entry n))) (sym up);
  label = label;
  entry = there;
  extends = subst (λ x. Extends x w) show ext;
  as_long = ap length instrs ∙ ap size show;
  placed = subst (λ x. IsAt w label (size x)) show at;
  maps = maps ∙ ap (λ (x : Written). telling (size x) (kinds_reported tb l.held) x.maps) show ∙ ap (λ x. telling (size chosen) (kinds_reported x l.held) chosen.maps) types;
}
  where
    is : opened ≡ entering_root s g.choice.takes q (spot_of g.choice.root) (reaching g.entry resumed.next)
    is = enters ∙ ap (λ x. entering_root x g.choice.takes q' (spot_of g.choice.root) tested) same ∙ ap (λ x. entering_root s g.choice.takes x (spot_of g.choice.root) tested) (sym qs)
        ∙ ap (entering_root s g.choice.takes q (spot_of g.choice.root)) (test ∙ whole ∙ ap (λ x. reaching x resumed.next) cp)

    up : l.next ≡ resumed.next
    up = next_of l (wide opened) known ∙ next_of opened (entering_root s g.choice.takes q (spot_of g.choice.root) (reaching g.entry resumed.next)) is ∙ root_next s g.choice.takes q (spot_of g.choice.root) (reaching g.entry resumed.next)

-- what is known at the ends of the clauses so far

pub joins_first : (k m : Known) → m ≡ k → JoinsLaid None k (Some m)
joins_first k m e = ap Some e

pub joins_met : (j k m : Known) → Met j k m → JoinsLaid (Some j) k (Some m)
joins_met j k m met = (m, refl, met, λ a. met_accounted j k m a met, met_fewer j k m met)

pub ruleset joining_laid = (joins_first, joins_met)

-- where clauses meet

pub meets_laid : (s : Setting) (tb : Table) (g : Matching) (m k resumed l : Known) (v w : Written) → tb ≡ s.types → resumed ≡ reaching m resumed.next → resumed.next ≡ max k.next m.next → l ≡ wide resumed → Extends v w → w.instrs ≡ v.instrs → IsAt w g.end (size v) → w.maps ≡ telling (size v) (kinds_reported tb l.held) v.maps → MeetsLaid s g m k v l w
meets_laid s tb g m k resumed l v w types whole more known ext instrs at maps = record {
  next = next_of l (wide resumed) known ∙ more;
  known = known ∙ ap wide (whole ∙ ap (reaching m) (sym (next_of l (wide resumed) known)));
  extends = ext;
  as_long = ap length instrs;
  placed = at;
  maps = maps ∙ ap (λ x. telling (size v) (kinds_reported x l.held) v.maps) types;
}
