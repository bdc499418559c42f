-- Values of arguments that are put after others.
use Rattle.std.proofs.Common.{◌≡◌, ℕ, suc, List, [], ◌∷◌, ◌++◌, length, Option, Some, None, refl, sym, ap, ◌∙◌, subst, append-nil, append_assoc}
use Rattle.fip_trees.specs.fip_language.Values.{Value as Tree, Node, Values, End, More as Further}
use Rattle.fip_trees.specs.fip_language.Meaning.{Environment, more_of}
use Rattle.fip_trees.specs.Tree.{Arguments, NoArguments, MoreArguments, count}
use Rattle.fip_trees.specs.declared.program.Argument.{Argument as CodeArgument}
use Rattle.fip_trees.specs.TreeView.{arguments}
use Rattle.fip_trees.proofs.TreeViews.{count_view}
use Rattle.instance_semantics.specs.Meaning.{argument_value, argument_values, node_of}
use Rattle.plain_rows.specs.declared.store.Value.{Value}
use Rattle.plain_rows.specs.declared.store.Store.{Store}
use Rattle.plain_rows.specs.Rows.{count_rows, HoldAll, Stands, StandAll, More}
use Rattle.plain_rows.proofs.Standing.{more_stands}
use Rattle.plain_eval.specs.Giving.{GivesOne, GivesAll}

-- one more value: what is given by the others is given by all
pub gives_more : (s t : Store) (o : Option Tree) (others : Option Values) (old mid new : List Value) → More s t → GivesOne o old s mid → GivesAll others mid t new → GivesAll (more_of o others) old t new
gives_more s t None others old mid new m g h = tt
gives_more s t (Some v) None old mid new m g h = tt
gives_more s t (Some v) (Some vs) old mid new m g h =
    (g.0 ∷ h.0, h.1 ∙ ap (λ l. l ++ h.0) g.1 ∙ append_assoc old (g.0 ∷ []) h.0, (more_stands s t g.0 v m g.2, wider t h.0 vs h.2)) where
      wider : (t : Store) (ws : List Value) (vs : Values) → StandAll t ws vs → StandAll t ws vs
      wider t ws vs h = h

pub gives_none : (s : Store) (given : List Value) → GivesAll (Some End) given s given
gives_none s given = ([], sym (append-nil given), tt)

more_some : (o : Option Tree) (p : Option Values) (vs : Values) → more_of o p ≡ Some vs → (v : Tree) × (us : Values) × (p ≡ Some us) × (vs ≡ Further v us)
more_some None p vs e = cc
more_some (Some v) None vs e = cc
more_some (Some v) (Some us) vs e = (v, us, refl, (let z : Some (Further v us) ≡ Some vs = e in let y : Further v us ≡ vs = cc in sym y))

held_more : (s : Store) (n : ℕ) (ws : List Value) (v : Tree) (us : Values) → HoldAll s n ws (Further v us) → (w : Value) × (rest : List Value) × (ws ≡ w ∷ rest) × HoldAll s n rest us
held_more s n [] v us h = absurd h
held_more s n (w ∷ ws) v us h = (w, ws, refl, h.1)

held_none : (s : Store) (n : ℕ) (ws : List Value) → HoldAll s n ws End → ws ≡ []
held_none s n [] h = refl
held_none s n (w ∷ ws) h = absurd h

values_count : (env : Environment) (as' : Arguments) (s : Store) (n : ℕ) (ws : List Value) (vs : Values) → argument_values env as' ≡ Some vs → HoldAll s n ws vs → length ws ≡ count as'
values_count env NoArguments s n ws vs e h = ap length (held_none s n ws (subst (HoldAll s n ws) (let z : Some End ≡ Some vs = e in let y : End ≡ vs = cc in sym y) h))
values_count env (MoreArguments a as') s n ws vs e h =
    let m = more_some (argument_value env a) (argument_values env as') vs e in
    let k = held_more s n ws m.0 m.1 (subst (HoldAll s n ws) m.3 h) in
    ap length k.2 ∙ ap suc (values_count env as' s n k.1 m.1 m.2 k.3)

-- a constructor's value
pub gives_node : (env : Environment) (s t : Store) (c size : ℕ) (as' : List CodeArgument) (old mid new : List Value) → size ≡ length as' → GivesAll (argument_values env (arguments as')) old s mid → ((before fields : List Value) (vs : Values) → mid ≡ before ++ fields → length fields ≡ size → StandAll s fields vs → (w : Value) × (new ≡ before ++ w ∷ []) × Stands t w (Node c vs)) → GivesOne (node_of c (argument_values env (arguments as'))) old t new
gives_node env s t c size as' old mid new n g f = by (argument_values env (arguments as')) refl g where
  by : (o : Option Values) → argument_values env (arguments as') ≡ o → GivesAll o old s mid → GivesOne (node_of c o) old t new
  by None e g = tt
  by (Some vs) e g = f old g.0 vs g.1 (values_count env (arguments as') s (count_rows s) g.0 vs e g.2 ∙ count_view as' ∙ sym n) g.2
