-- The root of a name is the first one.
use Rattle.std.proofs.Common.{◌≡◌, ◌∙◌, ℕ, zero, suc, Bool, true, false, List, [], ◌∷◌, drop, refl, sym, ap, subst, if◌then◌else◌}
use Rattle.std.specs.Prelude.{Some, bytes_eq, slice_get}
use Rattle.std.proofs.lemmas.Option.{none-some, same_Some}
use Rattle.fip_trees.specs.TreeView as V
use Rattle.fip_trees.specs.Tree as T
use Rattle.fip_trees.specs.declared.program.Instance.{Instance}
use Rattle.command_source.specs.Roots.{root_named}

-- whether an instance is a root of a name
abbrev pub is_root : List ℕ → T.Instance → Bool
is_root name d = if d.root then bytes_eq d.name name else false

head_named : (name : List ℕ) (d : T.Instance) (ds : List T.Instance) → is_root name d ≡ true → root_named name (d ∷ ds) ≡ Some d
head_named name d ds h = by d.root refl
  where
    named : (b : Bool) → bytes_eq d.name name ≡ b → b ≡ true → (if bytes_eq d.name name then Some d else root_named name ds) ≡ Some d
    named b e t = ap (λ b. if b then Some d else root_named name ds) (e ∙ t)

    by : (b : Bool) → d.root ≡ b → root_named name (d ∷ ds) ≡ Some d
    by true e =
        let same : bytes_eq d.name name ≡ true = sym (ap (λ b. if b then bytes_eq d.name name else false) e) ∙ h in
        ap (λ b. if b then (if bytes_eq d.name name then Some d else root_named name ds) else root_named name ds) e ∙ named true same refl
    by false e = absurd (let f : false ≡ true = sym (ap (λ b. if b then bytes_eq d.name name else false) e) ∙ h in cc)

pub first_root : (name : List ℕ) (ds : List Instance) (i : ℕ) (d : Instance) → slice_get ds i ≡ Some d → is_root name (V.instance_of d) ≡ true → root_named name (V.instances (drop i ds)) ≡ Some (V.instance_of d)
first_root name [] i d e h = absurd (none-some d e)
first_root name (x ∷ ds) zero d e h =
    let same = same_Some x d e in
    subst (λ x. root_named name (V.instances (x ∷ ds)) ≡ Some (V.instance_of d)) (sym same) (head_named name (V.instance_of d) (V.instances ds) h)
first_root name (x ∷ ds) (suc i) d e h = first_root name ds i d e h
