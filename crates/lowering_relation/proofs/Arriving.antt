-- Where a run lands, a clause's body is entered, and what is known there is so.
use Rattle.std.proofs.Common.{◌≡◌, inl, inr, sym, ap, ◌∙◌, subst, ⊎_elim, arith, ℕ, ◌<◌, ◌≤◌, Bool, List, ◌∷◌, Some}
use Rattle.tree_semantics.specs.fip_language.Matching.{Binding}
use Rattle.tree_semantics.specs.fip_language.Every.{Among}
use Rattle.credit_check.specs.fip_trees.Tree.{Pattern}
use Rattle.instance_semantics.specs.Matching.{matching}
use Rattle.code_rules.specs.cell_code.declared.code.Instr.{Instr}
use Rattle.tree_semantics.specs.Contents.{Contents}
use Rattle.lowering_relation.specs.Known.{Known, register_of}
use Rattle.lowering_relation.specs.Values.{Setting}
use Rattle.lowering_relation.specs.Tidy.{Fixed, Tidy, Unknown, NotIn}
use Rattle.lowering_relation.specs.Choosing.{place, Arrives, Opens}
use Rattle.lowering_relation.proofs.LoweredLists.{below_not, below_more}
use Rattle.lowering_relation.specs.Spots.{Spot, register, below, Differ}
use Rattle.lowering_relation.specs.Landing.{Scene, entry, IsScene, Lands}
use Rattle.lowering_relation.specs.Entering.{entering_root, IsSo}
use Rattle.lowering_relation.specs.Losing.{Loses, Resumes}
use Rattle.lowering_relation.proofs.Entries.{so_root}
use Rattle.lowering_relation.proofs.Opens.{Enters, enters_root}

pub resumes_lost : (k l : Known) → Loses k l → Resumes k l
resumes_lost k l h = record { names = h.names; grows = let e = h.next in omega (arith, e); credits = h.credits; barer = h.barer }

fixed_resumed : (k l : Known) (r : ℕ) → Resumes k l → Fixed k r → Fixed l r
fixed_resumed k l r h f = record { used = let a = f.used in let b = h.grows in omega (arith, a, b); kept = h.credits.keeps r f.kept }

pub tidy_resumed : (k l : Known) → Resumes k l → Tidy k → Tidy l
tidy_resumed k l h t = record {
  named = λ x r e. fixed_resumed k l r h (t.named x r (ap (λ ns. register_of ns (Some x)) (sym h.names) ∙ e));
  bare = λ r u c e. fixed_resumed k l r h (t.bare r u c (h.barer r u c e));
  once = h.credits.once t.once;
  below = below_more k.next l.next l.credits h.grows (h.credits.below k.next t.below);
}

pub unknown_resumed : (k l : Known) (d : ℕ) → Resumes k l → Unknown k d → Unknown l d
unknown_resumed k l d h u = record {
  fixed = fixed_resumed k l d h u.fixed;
  unnamed = λ x r e. u.unnamed x r (ap (λ ns. register_of ns (Some x)) (sym h.names) ∙ e);
  no_bare = λ r t c e. u.no_bare r t c (h.barer r t c e);
}

-- what is known at the entry is tidy
pub opens_entry : (st : Setting) (takes : Bool) (q : Pattern) (p : Spot) (m k l : Known) → Resumes m k → Loses (entering_root st takes q p k) l → Differ p → (Among (register p) (below p) → ⊥) → ((z : ℕ) → Among z (below p) → (m.next ≤ z) × (z < k.next)) → Opens m (register p) l
opens_entry st takes q p m k l resumed lost differ apart fresh = record {
  tidy = λ fixed t. tidy_resumed at_entry l (resumes_lost at_entry l lost) (enters.tidy (tidy_resumed m k resumed t) (λ z a. ready z fixed t a));
  unknown = λ d u ne. unknown_resumed at_entry l d (resumes_lost at_entry l lost) (enters.unknown d (unknown_resumed m k d resumed u) (λ a. other d u ne a));
}
  where
    at_entry : Known
    at_entry = entering_root st takes q p k

    enters : Enters k at_entry (register p ∷ below p)
    enters = enters_root st takes q p k differ apart

    ready : (z : ℕ) → Fixed m (register p) → Tidy m → Among z (register p ∷ below p) → (z < k.next) × NotIn z k.credits
    ready z fixed t (inl e) = let f = fixed_resumed m k (register p) resumed fixed in (subst (λ x. x < k.next) (sym e) f.used, subst (λ x. NotIn x k.credits) (sym e) f.kept)
    ready z fixed t (inr b) = let two = fresh z b in (two.1, below_not m.next z k.credits (resumed.credits.below m.next t.below) two.0)

    other : (d : ℕ) → Unknown m d → (register p ≡ d → ⊥) → Among d (register p ∷ below p) → ⊥
    other d u ne (inl e) = ne (sym e)
    other d u ne (inr b) = let le = (fresh d b).0 in let lt = u.fixed.used in absurd (omega (arith, le, lt))

-- the entry is reached, and what is known there is so
pub arrives_entry : (st : Setting) (s : Scene) (to : ℕ → ℕ) (code : List Instr) (start : ℕ) (m k l : Known) (c0 : Contents) (bs : List Binding) → IsScene s → (h : Lands s to code start c0 c0) → matching h.pattern (c0 (register s.root)) ≡ Some bs → Resumes m k → m.next ≡ s.low → Loses (entering_root st s.takes h.pattern s.root k) l → Arrives code (place start c0) m bs (record { at = to (entry s h.number); known = l })
arrives_entry st s to code start m k l c0 bs is h matched resumed low lost = record {
  contents = h.contents;
  reaches = h.reaches;
  kept = λ r f. h.same r (let a = f.used in omega (arith, a, low));
  names = λ x r e. ⊎_elim (λ a. inl a) (λ b. inr (ap (λ ns. register_of ns (Some x)) (sym resumed.names) ∙ b)) (so.names x r (ap (λ ns. register_of ns (Some x)) (sym lost.names) ∙ e));
  bound = λ x r v e f. so.bound x r v (ap (λ ns. register_of ns (Some x)) (sym lost.names) ∙ e) f;
  bares = λ r t c e. ⊎_elim (λ a. inl (resumed.barer r t c a)) (λ b. inr b) (so.bares r t c (lost.barer r t c e));
}
  where
    so : IsSo k (entering_root st s.takes h.pattern s.root k) bs h.contents
    so = so_root st s.takes h.pattern s.root (c0 (register s.root)) k h.contents bs matched (h.same (register s.root) is.used) h.opened
