-- Instances one after another.
use Rattle.std.proofs.Common.{◌≡◌, ℕ, ◌+◌, refl, sym, ap, subst, ◌∙◌, append_assoc, List, [], ◌∷◌, ◌++◌, map, drop, length, ◌≤◌, true, false, arith}
use Rattle.std.proofs.lemmas.List.{map-append}
use Rattle.std.proofs.lemmas.Grind.{common_steps}
use Rattle.fip_trees.specs.declared.needs.Need.{Need}
use Rattle.fip_trees.specs.NeedsView.{needs_of}
use Rattle.fip_trees.specs.Tree.{Instance, Program}
use Rattle.fip_trees.specs.declared.program.Instance as A
use Rattle.fip_trees.specs.TreeView.{instance_of}
use Rattle.fip_rules.specs.World.{world, is_ruled}
use Rattle.derivation_trees.specs.declared.derivation.Line.{Line}
use Rattle.derivation_trees.specs.Trees.{Entry, entry}
use Rattle.derivation_walk.specs.Guides.{IsWalked}
use Rattle.derivation_walk.specs.Walks.{If, First, AreWalked}

-- these entries, and then what the walk gives for the rest
abbrev pub Going : Program → List (List Need) → ℕ → List Instance → List Instance → List Entry → Type 0
Going p nss n ds all es = (fs : List Entry) → AreWalked p nss n ds fs → AreWalked p nss 0 all (es ++ fs)

pub ruled_more : (p : Program) (nss : List (List Need)) (n : ℕ) (d : Instance) (ds all : List Instance) (ls ms : List Line) (l : Line) → is_ruled d.kind ≡ true → l.instance ≡ n → IsWalked (world p d.kind) (needs_of nss n) d (entry l).tree → ms ≡ ls ++ l ∷ [] → Going p nss n (d ∷ ds) all (map entry ls) → Going p nss (n + 1) ds all (map entry ms)
ruled_more p nss n d ds all ls ms l r e h m inv fs k =
    let is : map entry ms ++ fs ≡ map entry ls ++ entry l ∷ fs = ap (λ xs. map entry xs ++ fs) m ∙ ap (λ ys. ys ++ fs) (map-append entry ls (l ∷ [])) ∙ append_assoc (map entry ls) (entry l ∷ []) fs in
    subst (AreWalked p nss 0 all) (sym is)
    (inv (entry l ∷ fs) (subst (λ b. If b (First (entry l ∷ fs) (λ x rest. (x.instance ≡ n) × IsWalked (world p d.kind) (needs_of nss n) d x.tree × AreWalked p nss (n + 1) ds rest)) (AreWalked p nss (n + 1) ds (entry l ∷ fs))) (sym r) (e, h, k)))

pub plain_more : (p : Program) (nss : List (List Need)) (n : ℕ) (d : Instance) (ds all : List Instance) (ls ms : List Line) → is_ruled d.kind ≡ false → ms ≡ ls → Going p nss n (d ∷ ds) all (map entry ls) → Going p nss (n + 1) ds all (map entry ms)
plain_more p nss n d ds all ls ms r m inv fs k =
    subst (λ xs. AreWalked p nss 0 all (map entry xs ++ fs)) (sym m)
    (inv fs (subst (λ b. If b (First fs (λ x rest. (x.instance ≡ n) × IsWalked (world p d.kind) (needs_of nss n) d x.tree × AreWalked p nss (n + 1) ds rest)) (AreWalked p nss (n + 1) ds fs)) (sym r) k))

nil_right : (xs : List Entry) → xs ++ [] ≡ xs
nil_right [] = refl
nil_right (x ∷ xs) = ap (λ (ys : List Entry). x ∷ ys) (nil_right xs)

pub all_walked : (p : Program) (nss : List (List Need)) (n : ℕ) (ds all : List Instance) (es : List Entry) → ds ≡ [] → Going p nss n ds all es → AreWalked p nss 0 all es
all_walked p nss n ds all es e inv = subst (AreWalked p nss 0 all) (nil_right es) (inv [] (subst (λ xs. AreWalked p nss n xs []) (sym e) tt))

pub none_left : (xs : List A.Instance) (i : ℕ) → length xs ≤ i → map instance_of (drop i xs) ≡ []
none_left xs i h = let e : drop i xs ≡ [] = grind (arith, common_steps) in ap (λ q. map instance_of q) e
