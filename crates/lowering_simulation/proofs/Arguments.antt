-- A run computes arguments: it writes their values into their registers, and no other register that is fixed.
use Rattle.std.proofs.Common.{◌≡◌, inl, inr, ℕ, suc, List, [], ◌∷◌, Option, Some, None, refl, sym, ap, ◌∙◌, subst, arith, slice_get, length}
use Rattle.tree_refinement.specs.fip_language.Values.{Value, Int, Node, Values, End, More}
use Rattle.tree_refinement.specs.fip_language.Meaning.{Environment, binder_value, more_of}
use Rattle.lowering_relation.specs.fip_trees.Tree.{Argument, Variable, Literal, Constructor, Arguments, NoArguments, MoreArguments}
use Rattle.tree_refinement.specs.cell_code.declared.code.Instr.{Instr}
use Rattle.tree_refinement.specs.cell_code.declared.code.Instr.TheVariants as I
use Rattle.tree_refinement.specs.cell_code.Plain.{PlainCode}
use Rattle.lowering_relation.specs.machine_semantics.Codes.{instr_at}
use Rattle.lowering_relation.specs.instance_semantics.Meaning.{node_of, argument_value, argument_values}
use Rattle.lowering_relation.specs.tree_semantics.Contents.{Contents, put, read_all}
use Rattle.lowering_relation.specs.tree_semantics.States.{Frame, State, Went}
use Rattle.lowering_relation.specs.tree_semantics.Steps.{act}
use Rattle.tree_refinement.proofs.tree_semantics.Puts.{put_same, put_other}
use Rattle.lowering_relation.specs.Tidy.{Fixed, Tidy}
use Rattle.lowering_relation.specs.declared.held.Held.TheVariants as H
use Rattle.lowering_relation.specs.Known.{Known, register_of}
use Rattle.lowering_relation.specs.Values.{Setting, Stands, BuiltAt, ArgumentAt, ArgumentsAt}
use Rattle.lowering_simulation.proofs.Leads.{Coming, At, LeadsTo, and_on, steps, next_is}
use Rattle.lowering_relation.proofs.LoweredLists.{taken_other, same_some}
use Rattle.lowering_simulation.proofs.Statics.{Step, tidy_on, argument_step, arguments_step, argument_fixed, fixed_on}

-- registers that are fixed hold what they held
pub record Kept (k : Known) (cs ds : Contents) : Type 0 where
  pub by : (r : ℕ) → Fixed k r → ds r ≡ cs r

pub kept_same : (k : Known) (cs : Contents) → Kept k cs cs
kept_same k cs = record { by = λ r h. refl }

pub kept_on : (k l : Known) (a b c : Contents) → Step k l → Kept k a b → Kept l b c → Kept k a c
kept_on k l a b c s p q = record { by = λ r h. q.by r (fixed_on k l r s h) ∙ p.by r h }

-- what is known is so: a variable's register holds its value, and one with a constructor that was matched holds this
pub record World (k : Known) (env : Environment) (cs : Contents) : Type 0 where
  pub tidy : Tidy k
  pub agrees : (x r : ℕ) (v : Value) → register_of k.names (Some x) ≡ Some r → env x ≡ Some v → cs r ≡ v
  pub bares : (r t c : ℕ) → slice_get k.held r ≡ Some (H.Bare t c) → cs r ≡ Node c End

pub world_on : (k l : Known) (env : Environment) (cs ds : Contents) → Step k l → Kept k cs ds → World k env cs → World l env ds
world_on k l env cs ds s p w = record {
  tidy = tidy_on k l s w.tidy;
  agrees = λ x r v h e. let was = ap (λ ns. register_of ns (Some x)) (sym s.names) ∙ h in p.by r (w.tidy.named x r was) ∙ w.agrees x r v was e;
  bares = λ r t c h. let was = s.barer r t c h in p.by r (w.tidy.bare r t c was) ∙ w.bares r t c was;
}

pub node_inv : (c : ℕ) (o : Option Values) (v : Value) → node_of c o ≡ Some v → (vs : Values) × (o ≡ Some vs) × (Node c vs ≡ v)
node_inv c None v e = absurd cc
node_inv c (Some vs) v e = (vs, refl, cc)

pub more_inv : (o : Option Value) (p : Option Values) (vs : Values) → more_of o p ≡ Some vs → (w : Value) × (ws : Values) × (o ≡ Some w) × (p ≡ Some ws) × (More w ws ≡ vs)
more_inv None p vs e = absurd cc
more_inv (Some w) None vs e = absurd cc
more_inv (Some w) (Some ws) vs e = (w, ws, refl, refl, cc)

-- A function's code, as it is in a whole code: instruction p of `is` is instruction p of function f.
module _ (code : PlainCode) (width : ℕ → ℕ) (f : ℕ) (is : List Instr) (has : (p : ℕ) (i : Instr) → slice_get is p ≡ Some i → instr_at code f p ≡ Some i) (waiting : List Frame) (free : ℕ) where
  -- its frame runs, at p and with these registers
  abbrev pub state : ℕ → Contents → State
  state p cs = record { running = record { function = f; at = p; contents = cs }; waiting = waiting; free = free }

  abbrev pub here : ℕ → Contents → ℕ → Coming
  here p cs left = At (state p cs) left

  -- an instruction that only writes registers
  pub goes_on : (p q : ℕ) (i : Instr) (cs ds : Contents) (left : ℕ) (c : Coming) → Stands is p i → q ≡ suc p → act code (state p cs) i ≡ Went (state (suc p) ds) → LeadsTo code width (here q ds left) c → LeadsTo code width (here p cs left) c
  goes_on p q i cs ds left c h e a go =
      and_on code width (here p cs left) (here (suc p) ds left) c
      (steps code width (state p cs) (state (suc p) ds) left refl (next_is code width (state p cs) i (has p i h) ∙ a))
      (subst (λ n. LeadsTo code width (here n ds left) c) e go)

  pub comes_there : (p q : ℕ) (cs : Contents) (left : ℕ) (c : Coming) → q ≡ p → LeadsTo code width (here q cs left) c → LeadsTo code width (here p cs left) c
  comes_there p q cs left c e go = subst (λ n. LeadsTo code width (here n cs left) c) e go

  next_kept : (k : Known) (r : ℕ) (v : Value) (cs : Contents) → r ≡ k.next → Kept k cs (put cs r v)
  next_kept k r v cs e = record { by = λ q h. put_other cs r v q (λ same. let lt = h.used in absurd (omega (arith, e, same, lt))) }

  pub built_runs : (setting : Setting) (at : ℕ) (k : Known) (t c : ℕ) (rs : List ℕ) (r end : ℕ) (l : Known) (env : Environment) (cs : Contents) (left : ℕ) (to : Coming) → BuiltAt setting is at k t c rs r end l → World k env cs → ((ds : Contents) → Kept k cs ds → ds r ≡ Node c (read_all cs rs) → LeadsTo code width (here end ds left) to) → LeadsTo code width (here at cs left) to
  built_runs setting at k t c [] r end l env cs left to (inl h) w go =
      comes_there at end cs left to h.nothing (go cs (kept_same k cs) (w.bares r t c h.held))
  built_runs setting at k t c [] r end l env cs left to (inr h) w go =
      goes_on at end (I.Atom r t c) cs (put cs r (Node c End)) left to h.written h.one refl
      (go (put cs r (Node c End)) (next_kept k r (Node c End) cs h.fresh) (put_same cs r (Node c End) r refl))
  built_runs setting at k t c (q ∷ qs) r end l env cs left to h w go =
      let v = Node c (read_all cs (q ∷ qs)) in
      goes_on at end (I.Put r t c (q ∷ qs)) cs (put cs r v) left to h.written h.one refl
      (go (put cs r v)
      (record { by = λ p fixed. put_other cs r v p (taken_other k.credits (length (q ∷ qs)) r h.credits p h.taken fixed.kept) })
      (put_same cs r v r refl))

  variable_is : (k : Known) (o : Option ℕ) (r : ℕ) (env : Environment) (cs : Contents) (v : Value) → World k env cs → register_of k.names o ≡ Some r → binder_value env o ≡ Some v → cs r ≡ v
  variable_is k None r env cs v w h e = absurd (cc)
  variable_is k (Some x) r env cs v w h e = w.agrees x r v h e

  mutual
    pub argument_runs : (setting : Setting) (at : ℕ) (k : Known) (a : Argument) (r end : ℕ) (l : Known) (env : Environment) (cs : Contents) (left : ℕ) (v : Value) (to : Coming) → ArgumentAt setting is at k a r end l → World k env cs → argument_value env a ≡ Some v → ((ds : Contents) → Kept k cs ds → ds r ≡ v → LeadsTo code width (here end ds left) to) → LeadsTo code width (here at cs left) to
    argument_runs setting at k (Variable x n p) r end l env cs left v to h w e go =
        comes_there at end cs left to h.nothing (go cs (kept_same k cs) (variable_is k x r env cs v w h.named e))
    argument_runs setting at k (Literal i p) r end l env cs left v to h w e go =
        goes_on at end (I.Const r i) cs (put cs r (Int i)) left to h.written h.one refl
        (go (put cs r (Int i)) (next_kept k r (Int i) cs h.fresh) (put_same cs r (Int i) r refl ∙ same_some (Int i) v e))
    argument_runs setting at k (Constructor t d c n p as') r end l env cs left v to h w e go =
        let inv = node_inv c (argument_values env as') v e in
        let s = arguments_step setting is at k as' h.0 h.1 h.2 h.3 in
        arguments_runs setting at k as' h.0 h.1 h.2 env cs left inv.0 to h.3 w inv.1
        (λ ds kept same. built_runs setting h.1 h.2 t c h.0 r end l env ds left to h.4 (world_on k h.2 env cs ds s kept w)
        (λ es kept2 is2. go es (kept_on k h.2 cs ds es s kept kept2) (is2 ∙ ap (Node c) same ∙ inv.2)))

    pub arguments_runs : (setting : Setting) (at : ℕ) (k : Known) (as' : Arguments) (rs : List ℕ) (end : ℕ) (l : Known) (env : Environment) (cs : Contents) (left : ℕ) (vs : Values) (to : Coming) → ArgumentsAt setting is at k as' rs end l → World k env cs → argument_values env as' ≡ Some vs → ((ds : Contents) → Kept k cs ds → read_all ds rs ≡ vs → LeadsTo code width (here end ds left) to) → LeadsTo code width (here at cs left) to
    arguments_runs setting at k NoArguments [] end l env cs left vs to h w e go =
        comes_there at end cs left to h.0 (go cs (kept_same k cs) (same_some End vs e))
    arguments_runs setting at k NoArguments (r ∷ rs) end l env cs left vs to h w e go = absurd h
    arguments_runs setting at k (MoreArguments a as') [] end l env cs left vs to h w e go = absurd h
    arguments_runs setting at k (MoreArguments a as') (r ∷ rs) end l env cs left vs to h w e go =
        let inv = more_inv (argument_value env a) (argument_values env as') vs e in
        let s = argument_step setting is at k a r h.0 h.1 h.2 in
        let fixed = argument_fixed setting is at k a r h.0 h.1 w.tidy h.2 in
        argument_runs setting at k a r h.0 h.1 env cs left inv.0 to h.2 w inv.2
        (λ ds kept is1. arguments_runs setting h.0 h.1 as' rs end l env ds left inv.1 to h.3 (world_on k h.1 env cs ds s kept w) inv.3
        (λ es kept2 all. go es (kept_on k h.1 cs ds es s kept kept2)
        (ap (λ x. More x (read_all es rs)) (kept2.by r fixed ∙ is1) ∙ ap (More inv.0) all ∙ inv.4)))
