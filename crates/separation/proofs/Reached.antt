-- Each register that is borrowed reaches one heir or none: along its froms the trees grow, so that the walk ends.
use Rattle.std.proofs.Common.{◌≡◌, inl, inr, ℕ, zero, suc, ◌+◌, ◌<◌, ◌≤◌, Bool, false, List, length, Option, Some, None, refl, ap, arith}
use Rattle.std.proofs.lemmas.Option.{none-some, same_Some}
use Rattle.separation_kinds.specs.fip_language.Table.{Table}
use Rattle.separation_kinds.specs.fip_language.Store.{Placed, PlacedInt, Bare, At, Parts, NoParts, MoreParts}
use Rattle.separation_kinds.specs.cell_code.declared.kind.From.{From}
use Rattle.separation_kinds.specs.cell_code.declared.kind.Kind.{Kind}
use Rattle.separation_kinds.specs.cell_code.declared.kind.Kind.TheVariants.{Gone, Scalar, Owned, Lent, Credit}
use Rattle.separation_kinds.specs.machine_semantics.Cells.{Store}
use Rattle.separation_kinds.specs.machine_semantics.Apart.{Holding, Nothing, Tree, Spare}
use Rattle.separation_kinds.specs.code_rules.Kinds.{at, from_of}
use Rattle.separation_kinds.specs.code_rules.Taking.{Chain, IsReached}
use Rattle.separation_kinds.specs.Meanings.{part_in, part_of, Framed, Means, AreMeant, sum_from}
use Rattle.separation_kinds.proofs.Basics.{apart, or_not, sum_part}
use Rattle.separation_kinds.proofs.KindLemmas.{not_gone_within, roots_gone}
use Rattle.separation_kinds.proofs.Reaching.{no_chain, framed_of, LeadsTo}
use Rattle.separation.proofs.Depth.{nodes, nodes_of_all}

abbrev nodes_held : Holding → ℕ
nodes_held Nothing = 0
nodes_held (Tree x) = nodes x
nodes_held (Spare p) = 0

part_in_nodes : (i : ℕ) (xs : Parts) (x : Placed) → part_in xs i ≡ Some x → nodes x ≤ nodes_of_all xs
part_in_nodes i NoParts x e = absurd (none-some x e)
part_in_nodes zero (MoreParts y xs) x e = let z = ap nodes (same_Some y x e) in omega arith
part_in_nodes (suc i) (MoreParts y xs) x e = let z = part_in_nodes i xs x e in omega arith

part_nodes : (y : Placed) (i : ℕ) (x : Placed) → part_of y i ≡ Some x → nodes x < nodes y
part_nodes (PlacedInt n) i x e = absurd (none-some x e)
part_nodes (Bare c) i x e = absurd (none-some x e)
part_nodes (At p c xs) i x e = let z = part_in_nodes i xs x e in omega arith

-- the nodes of all trees together
abbrev most_nodes : List Kind → (ℕ → Holding) → ℕ
most_nodes ks hs = sum_from (λ r. nodes_held (hs r)) 0 (length ks)

step_on : (ks : List Kind) (heir : ℕ → Bool) (from : From) (o : Option ℕ) → heir from.register ≡ false → LeadsTo ks heir (from_of (at ks from.register)) o → LeadsTo ks heir (Some from) o
step_on ks heir from (Some d) e l = (suc l.0, (e, l.1))
step_on ks heir from None e l = ended
  where
    ended : (n d : ℕ) → Chain ks heir n (Some from) d → ⊥
    ended zero d c = apart (heir from.register) c.0 e
    ended (suc n) d c = l n d c.1

record IsLarger (ks : List Kind) (hs : ℕ → Holding) (x y : Placed) : Type 0 where
  larger : nodes x < nodes y
  few : nodes y ≤ most_nodes ks hs

is_larger : (ks : List Kind) (hs : ℕ → Holding) (root : Option ℕ) (from : From) (x : Placed) → (f : Framed (at ks) hs root (Some from) x) → IsLarger ks hs x f.tree
is_larger ks hs root from x f =
    let r : ℕ = from.register in
    let within : r < length ks = not_gone_within ks r (λ gone. roots_gone r (at ks r) root gone f.roots) in
    let part = sum_part (λ r. nodes_held (hs r)) 0 (length ks) r (omega arith) (omega arith) in
    let held = ap nodes_held f.holds in
    record { larger = part_nodes f.tree from.field x f.part; few = omega arith }

find : (tb : Table) (s : Store) (below : List Placed) (ks : List Kind) (ws : ℕ → ℕ) (hs : ℕ → Holding) (heir : ℕ → Bool) (n : ℕ) (root : Option ℕ) (from : Option From) (x : Placed) → AreMeant tb s below (at ks) ws hs → Framed (at ks) hs root from x → most_nodes ks hs ≤ nodes x + n → (o : Option ℕ) × LeadsTo ks heir from o
find tb s below ks ws hs heir n root None x m f h = (None, λ k d c. no_chain ks heir k d c)
find tb s below ks ws hs heir zero root (Some from) x m f h = let z = is_larger ks hs root from x f in let a = z.larger in let b = z.few in absurd (let y : ⊥ = omega arith in y)
find tb s below ks ws hs heir (suc n) root (Some from) x m f h =
    let z = is_larger ks hs root from x f in
    let a = z.larger in
    let up = framed_of tb s below (at ks) hs (at ks from.register) (ws from.register) (hs from.register) f.tree f.holds (m.each from.register) in
    let rest = find tb s below ks ws hs heir n up.0 (from_of (at ks from.register)) f.tree m up.1 (omega arith) in
    elim (or_not (heir from.register)) as (λ v. (o : Option ℕ) × LeadsTo ks heir (Some from) o) [
      | inl y ↦ (Some from.register, (0, (y, refl)))
      | inr e ↦ (rest.0, step_on ks heir from rest.0 e rest.1)
    ]

found : (tb : Table) (s : Store) (below : List Placed) (ks : List Kind) (ws : ℕ → ℕ) (hs : ℕ → Holding) (heir : ℕ → Bool) (k : Kind) (w : ℕ) (h : Holding) → AreMeant tb s below (at ks) ws hs → Means tb s below (at ks) hs k w h → (o : Option ℕ) × LeadsTo ks heir (from_of k) o
found tb s below ks ws hs heir Gone w h m g = (None, λ k d c. no_chain ks heir k d c)
found tb s below ks ws hs heir (Scalar t) w h m g = (None, λ k d c. no_chain ks heir k d c)
found tb s below ks ws hs heir (Owned t cs) w h m g = (None, λ k d c. no_chain ks heir k d c)
found tb s below ks ws hs heir (Lent t cs root from) w h m g = find tb s below ks ws hs heir (most_nodes ks hs) root from g.tree m g.framed (omega arith)
found tb s below ks ws hs heir (Credit n) w h m g = (None, λ k d c. no_chain ks heir k d c)

is_reached : (ks : List Kind) (heir : ℕ → Bool) (q : ℕ) (o : Option ℕ) → LeadsTo ks heir (from_of (at ks q)) o → IsReached ks heir q o
is_reached ks heir q (Some d) l = l
is_reached ks heir q None l = λ d r. l r.0 d r.1

pub reached : (tb : Table) (s : Store) (below : List Placed) (ks : List Kind) (ws : ℕ → ℕ) (hs : ℕ → Holding) (heir : ℕ → Bool) → AreMeant tb s below (at ks) ws hs → (q : ℕ) → (o : Option ℕ) × IsReached ks heir q o
reached tb s below ks ws hs heir m q =
    let f = found tb s below ks ws hs heir (at ks q) (ws q) (hs q) m (m.each q) in
    (f.0, is_reached ks heir q f.0 f.1)
