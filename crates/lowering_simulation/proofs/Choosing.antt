-- A run of the tests of a match reaches the clause that they choose, and what is known there is so.
use Rattle.std.proofs.Common.{◌≡◌, ℕ, zero, suc, List, Bool, true, false, Option, Some, None, refl, sym, ap, ◌∙◌, subst, ⊎_elim, slice_get}
use Rattle.std.specs.Prelude.{option_map, option_and_then, if◌then◌else◌}
use Rattle.tree_refinement.specs.fip_language.Values.{Value, Values}
use Rattle.tree_refinement.specs.fip_language.Matching.{Binding}
use Rattle.tree_refinement.specs.fip_language.Meaning.{Environment, nothing_bound, bind_matched, Peak, Run as Evaluation, if_matches}
use Rattle.tree_refinement.specs.cell_code.declared.code.Instr.{Instr}
use Rattle.tree_refinement.specs.cell_code.declared.code.Instr.TheVariants as I
use Rattle.tree_refinement.specs.cell_code.Plain.{PlainCode}
use Rattle.lowering_relation.specs.machine_semantics.Codes.{instr_at}
use Rattle.lowering_relation.specs.tree_semantics.Contents.{Contents, put, value_at, children}
use Rattle.lowering_relation.specs.tree_semantics.States.{Frame, Went}
use Rattle.lowering_relation.specs.tree_semantics.Steps.{act, branch, peeked, is_node, is_int}
use Rattle.lowering_relation.specs.Tidy.{Fixed, Tidy}
use Rattle.lowering_relation.specs.Known.{Known}
use Rattle.lowering_relation.specs.Choosing.{Place, place, followed, after, Reaches, Entry, binders_of, Arrives, ArrivesIf, Opens, Meets}
use Rattle.lowering_simulation.proofs.Leads.{Coming, LeadsTo, and_on, stays, steps, next_is, run_coming}
use Rattle.lowering_relation.proofs.LoweredLists.{same_some}
use Rattle.lowering_simulation.proofs.Arguments.{World, state, here}
use Rattle.lowering_simulation.proofs.Matching.{among_or_not, unmatched_same, matched_same}

-- what is known at a clause's entry is so
pub world_entered : (code : List Instr) (p : Place) (k : Known) (r : ℕ) (env : Environment) (bs : List Binding) (e : Entry) → World k env p.contents → Fixed k r → Opens k r e.known → (a : Arrives code p k bs e) → World e.known (bind_matched env bs) a.contents
world_entered code p k r env bs e w fixed o a = record {
  tidy = o.tidy fixed w.tidy;
  agrees = λ x q v n f. ⊎_elim
      (λ m. a.bound x q v n (matched_same nothing_bound env bs x m ∙ f))
      (λ no_one. ⊎_elim (λ m. absurd (no_one m)) (λ was. a.kept q (w.tidy.named x q was) ∙ w.agrees x q v was (sym (unmatched_same env bs x no_one) ∙ f)) (a.names x q n))
      (among_or_not x (binders_of bs));
  bares = λ q t c h. ⊎_elim (λ was. a.kept q (w.tidy.bare q t c was) ∙ w.bares q t c was) (λ new. new) (a.bares q t c h);
}

-- where clauses meet
pub world_met : (k l : Known) (env more : Environment) (cs : Contents) → Tidy l → Meets k l → ((x : ℕ) (v : Value) → env x ≡ Some v → more x ≡ Some v) → World k more cs → World l env cs
world_met k l env more cs t m h w = record {
  tidy = t;
  agrees = λ x r v n e. w.agrees x r v (m.names x r n) (h x v e);
  bares = λ r u c n. w.bares r u c (m.barer r u c n);
}

-- the first clause that matches, or the others
pub case_runs : (code : PlainCode) (width : ℕ → ℕ) (up : Peak → Peak) (c : Coming) (is : List Instr) (p : Place) (k : Known) (e : Entry) (other : Type 0) (o : Option (List Binding)) (body : List Binding → Evaluation) (rest : Evaluation) (go : Values → ℕ → Coming) → ArrivesIf is p k o e other → ((bs : List Binding) → o ≡ Some bs → Arrives is p k bs e → LeadsTo code width c (run_coming up (body bs) go)) → (o ≡ None → other → LeadsTo code width c (run_coming up rest go)) → LeadsTo code width c (run_coming up (if_matches o body rest) go)
case_runs code width up c is p k e other None body rest go a first others = others refl a
case_runs code width up c is p k e other (Some bs) body rest go a first others = first bs refl a

module _ (code : PlainCode) (width : ℕ → ℕ) (f : ℕ) (is : List Instr) (has : (p : ℕ) (i : Instr) → slice_get is p ≡ Some i → instr_at code f p ≡ Some i) (waiting : List Frame) (free : ℕ) where
  abbrev Standing : Place → Rattle.lowering_relation.specs.tree_semantics.States.State
  Standing p = state code width f is has waiting free p.at p.contents

  abbrev Its : Place → ℕ → Coming
  Its p left = here code width f is has waiting free p.at p.contents left

  test_goes : (b : Bool) (p q : Place) (target : ℕ) → Some (place (if b then suc p.at else target) p.contents) ≡ Some q → branch (Standing p) target b ≡ Went (Standing q)
  test_goes true p q target e = ap (λ x. Went (Standing x)) (same_some (place (suc p.at) p.contents) q e)
  test_goes false p q target e = ap (λ x. Went (Standing x)) (same_some (place target p.contents) q e)

  peek_goes : (o : Option Value) (p q : Place) (d : ℕ) → option_map (λ v. place (suc p.at) (put p.contents d v)) o ≡ Some q → peeked (Standing p) d o ≡ Went (Standing q)
  peek_goes None p q d e = absurd (cc)
  peek_goes (Some v) p q d e = ap (λ x. Went (Standing x)) (same_some (place (suc p.at) (put p.contents d v)) q e)

  follows_one : (p q : Place) (o : Option Instr) → followed p o ≡ Some q → (i : Instr) × (o ≡ Some i) × (act code (Standing p) i ≡ Went (Standing q))
  follows_one p q None e = absurd (cc)
  follows_one p q (Some (I.Const d v)) e = absurd (cc)
  follows_one p q (Some (I.Atom d t c)) e = absurd (cc)
  follows_one p q (Some (I.Move d r)) e = absurd (cc)
  follows_one p q (Some (I.Arith d o x y line col)) e = absurd (cc)
  follows_one p q (Some (I.Test r c target)) e = (I.Test r c target, refl, test_goes (is_node c (p.contents r)) p q target e)
  follows_one p q (Some (I.TestInt r v target)) e = (I.TestInt r v target, refl, test_goes (is_int v (p.contents r)) p q target e)
  follows_one p q (Some (I.Peek d r i)) e = (I.Peek d r i, refl, peek_goes (value_at (children (p.contents r)) i) p q d e)
  follows_one p q (Some (I.Take r ds)) e = (I.Take r ds, refl, ap (λ x. Went (Standing x)) (same_some _ q e))
  follows_one p q (Some (I.Put r t c ss)) e = absurd (cc)
  follows_one p q (Some (I.Drop r)) e = absurd (cc)
  follows_one p q (Some (I.Free r)) e = absurd (cc)
  follows_one p q (Some (I.Call g ss ds)) e = absurd (cc)
  follows_one p q (Some (I.Tail g ss)) e = absurd (cc)
  follows_one p q (Some (I.Ret ss)) e = absurd (cc)
  follows_one p q (Some (I.Jump target)) e = (I.Jump target, refl, ap (λ x. Went (Standing x)) (same_some _ q e))

  goes_one : (p q : Place) (left : ℕ) → followed p (slice_get is p.at) ≡ Some q → LeadsTo code width (Its p left) (Its q left)
  goes_one p q left e =
      let one = follows_one p q (slice_get is p.at) e in
      steps code width (Standing p) (Standing q) left refl (next_is code width (Standing p) one.0 (has p.at one.0 one.1) ∙ one.2)

  reach : (n : ℕ) (p q : Place) (left : ℕ) → after is n p ≡ Some q → LeadsTo code width (Its p left) (Its q left)
  reach zero p q left e = subst (λ x. LeadsTo code width (Its p left) (Its x left)) (same_some p q e) (stays code width (Its p left))
  reach (suc n) p q left e = by_step (followed p (slice_get is p.at)) refl e (λ m. reach n m q left)
    where
      by_step : (o : Option Place) → followed p (slice_get is p.at) ≡ o → option_and_then (λ m. after is n m) o ≡ Some q → ((m : Place) → after is n m ≡ Some q → LeadsTo code width (Its m left) (Its q left)) → LeadsTo code width (Its p left) (Its q left)
      by_step None h g ih = absurd (cc)
      by_step (Some m) h g ih = and_on code width (Its p left) (Its m left) (Its q left) (goes_one p m left h) (ih m g)

  pub reaches_run : (p q : Place) (left : ℕ) → Reaches is p q → LeadsTo code width (Its p left) (Its q left)
  reaches_run p q left h = reach h.steps p q left h.is

  -- a jump
  pub jumps : (p target : ℕ) (cs : Contents) (left : ℕ) → slice_get is p ≡ Some (I.Jump target) → LeadsTo code width (here code width f is has waiting free p cs left) (here code width f is has waiting free target cs left)
  jumps p target cs left h = goes_one (place p cs) (place target cs) left (ap (followed (place p cs)) h)
