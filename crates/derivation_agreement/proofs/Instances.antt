-- Instances, and programs.
use Rattle.std.proofs.Common.{◌≡◌, ℕ, suc, ◌≤◌, ◌+◌, refl, sym, ap, ◌∙◌, subst, List, [], ◌∷◌, ◌++◌, length, Bool, true, false, arith}
use Rattle.tail_groups.specs.fip_trees.declared.program.Binder.{Binder}
use Rattle.tail_groups.specs.fip_base.declared.plain.Param.{Param}
use Rattle.tail_groups.specs.fip_trees.Tree.{Instance, Program}
use Rattle.derivation_walk.specs.fip_rules.World.{World, world, is_fip, is_ruled}
use Rattle.derivation_walk.specs.fip_rules.Shapes.{Names, Bind, within, no_names}
use Rattle.derivation_walk.specs.fip_rules.Shapes as S
use Rattle.derivation_making.specs.ownership_calculus.Rules.{Fits, setting, Derivation, WEAKEN}
use Rattle.derivation_making.specs.ownership_calculus.Terms.{has}
use Rattle.derivation_making.specs.ownership_calculus.Functions as F
use Rattle.derivation_making.specs.ownership_agreement.Agreement.{IsDerived, AreDerived}
use Rattle.derivation_making.specs.ownership_agreement.Bodies.{borrowed_parameters, owned_parameters, entering_parameters, no_variables}
use Rattle.derivation_walk.specs.derivation_trees.Trees.{Tree, Entry}
use Rattle.derivation_making.specs.derivation_check.Owned.{root}
use Rattle.derivation_making.specs.derivation_check.Scopes.{parameters}
use Rattle.derivation_making.specs.derivation_check.Calculus.{Choice, DerivesBlock}
use Rattle.derivation_making.specs.derivation_check.Accepted.{DerivesInstance, FirstEntry, header_scope}
use Rattle.derivation_making.specs.derivation_check.Accepted as A
use Rattle.derivation_agreement.proofs.Sharing.{env, fits_same}
use Rattle.derivation_agreement.proofs.Header.{sees_header, starts_env}
use Rattle.derivation_agreement.proofs.Bodies.{block_derived}

within_next : (w : World) (c : Names) (ps : List Param) (bs : List Binder) → length bs ≡ length ps → (within c (S.parameters w ps bs)).next ≡ c.next + length ps
within_next w c [] [] e = omega arith
within_next w c (p ∷ ps) [] e = absurd (omega arith)
within_next w c [] (b ∷ bs) e = absurd (omega arith)
within_next w c (p ∷ ps) (b ∷ bs) e = more (within_next w (record { marks = c.marks ++ S.mark c.next b ∷ []; next = suc c.next }) ps bs (omega arith))
  where
    more : (within (record { marks = c.marks ++ S.mark c.next b ∷ []; next = suc c.next }) (S.parameters w ps bs)).next ≡ suc c.next + length ps → (within c (S.parameters w (p ∷ ps) (b ∷ bs))).next ≡ c.next + length (p ∷ ps)
    more h = omega arith

pub instance_derived : (p : Program) (d : Instance) (t : Tree) → DerivesInstance (world p d.kind) d t → IsDerived p d
instance_derived p d t (same, numbered, own, starts, body) =
    let w = world p d.kind in
    let c = within no_names (S.parameters w d.params d.binders) in
    let n : c.next ≡ length d.params = within_next w no_names d.params d.binders same ∙ (let z : 0 + length d.params ≡ length d.params = omega arith in z) in
    WEAKEN {P = env (parameters 0 d.params) (root t)} (λ i. fits_same (is_fip d.kind) (F.starting (owned_parameters w 0 d.params d.binders) d.credits i) (env (parameters 0 d.params) (root t) i) (sym (starts_env w d t same numbered starts i)))
    (block_derived w d.body (header_scope d) (length d.params) c (entering_parameters w 0 no_variables d.params d.binders) (setting (owned_parameters w 0 d.params d.binders) false (has (borrowed_parameters w 0 d.params d.binders))) t
    (sees_header w d.params d.binders c.next same numbered (omega arith)) own (subst (λ k. DerivesBlock w (header_scope d) k (length d.params) t d.body) (sym n) body))

choice_so : (b : Bool) (A B : Type 0) → b ≡ true → Choice b A B → A
choice_so true A B e h = h
choice_so false A B e h = absurd (cc)

first_derived : (p : Program) (n : ℕ) (d : Instance) (ds : List Instance) (es : List Entry) → FirstEntry es (λ e rest. (e.instance ≡ n) × DerivesInstance (world p d.kind) d e.tree × A.AreDerived p (n + 1) ds rest) → IsDerived p d
first_derived p n d ds [] h = absurd h
first_derived p n d ds (e ∷ es) h = instance_derived p d e.tree h.1

pub all_derived : (p : Program) (n : ℕ) (ds : List Instance) (es : List Entry) → A.AreDerived p n ds es → AreDerived p ds
all_derived p n [] [] h = tt
all_derived p n [] (e ∷ es) h = absurd h
all_derived p n (d ∷ ds) es h = (λ r. first_derived p n d ds es (choice_so (is_ruled d.kind) (FirstEntry es (λ e rest. (e.instance ≡ n) × DerivesInstance (world p d.kind) d e.tree × A.AreDerived p (n + 1) ds rest)) (A.AreDerived p (n + 1) ds es) r h), rest (λ es h. all_derived p (n + 1) ds es h) (is_ruled d.kind) es h)
  where
    rest : ((es : List Entry) → A.AreDerived p (n + 1) ds es → AreDerived p ds) → (b : Bool) (es : List Entry) → Choice b (FirstEntry es (λ e rest. (e.instance ≡ n) × DerivesInstance (world p d.kind) d e.tree × A.AreDerived p (n + 1) ds rest)) (A.AreDerived p (n + 1) ds es) → AreDerived p ds
    rest more true [] h = absurd h
    rest more true (e ∷ es) h = more es h.2
    rest more false es h = more es h
