-- `build` from no node, with a spare pad for each key, collects the keys.
use Rattle.std.proofs.Common.{◌≡◌, ◌↔◌, ◌⊎◌, ℕ, zero, suc, ◌+◌, ◌*◌, ◌^◌, ◌<◌, ◌≤◌, true, ℤ, List, [], ◌∷◌, length, inl, inr, arith, refl, sym, subst}
use Rattle.fip_language.specs.Every.{Every, Among}
use Rattle.instance_semantics.specs.Meaning.{flat_meaning}
use Rattle.evaluation_steps.specs.Gives.{three}
use Rattle.library_correctness.specs.Lists.{list_value}
use Rattle.library_correctness.specs.RedBlack.{Tree, Leaf, Pad, Pad0, Pad4, keys, tree_value, pads_value, IsRedBlack}
use Rattle.library_correctness.specs.KeySets.{IsSpare, SufficeForKeys, GivesKeys}
use Rattle.library_programs.specs.RedBlackProgram.{rbtree_program}
use Rattle.library_correctness.proofs.RedBlack.{Top, search, build, build_runs}
use Rattle.library_correctness.proofs.RedBlackResults.{searched, insert_is, gains_among, build_red_black}
use Rattle.library_correctness.proofs.Keys.{Outcome, Found, Added}
use Rattle.library_correctness.proofs.Heights.{stay_balanced}
use Rattle.library_correctness.proofs.Different.{length_different}

-- an inserted key joins the others
joined : (t : Tree) (i : ℤ) (p : Pad) → IsSpare p → Outcome t i p (search t i p Top) → (j : ℤ) → Among j (keys (search t i p Top).tree) ↔ ((j ≡ i) ⊎ Among j (keys t))
joined t i p s (Found a e) j =
    subst (λ x. Among j (keys x.tree) ↔ ((j ≡ i) ⊎ Among j (keys t))) (sym e)
    (inr, λ h. elim h [ inl is ↦ subst (λ k. Among k (keys t)) (sym is) a | inr b ↦ b ])
joined t i Pad0 s (Added n) j = absurd s
joined t i (Pad4 a b c d) s (Added n) j = gains_among i (keys t) (keys (search t i (Pad4 a b c d) Top).tree) n.0 j

-- a key, the others, and those that were there
together : (A B C D E : Type 0) → (D ↔ (A ⊎ C)) → (E ↔ (B ⊎ D)) → E ↔ ((A ⊎ B) ⊎ C)
together A B C D E one rest = (to, from)
  where
    first : A ⊎ C → (A ⊎ B) ⊎ C
    first (inl a) = inl (inl a)
    first (inr c) = inr c

    side : B ⊎ D → (A ⊎ B) ⊎ C
    side (inl b) = inl (inr b)
    side (inr d) = first (one.0 d)

    to : E → (A ⊎ B) ⊎ C
    to e = side (rest.0 e)

    back : (A ⊎ B) ⊎ C → B ⊎ D
    back (inl (inl a)) = inr (one.1 (inl a))
    back (inl (inr b)) = inl b
    back (inr c) = inr (one.1 (inr c))

    from : (A ⊎ B) ⊎ C → E
    from x = rest.1 (back x)

collects : (is : List ℤ) (ps : List Pad) (t : Tree) → IsRedBlack t → Every IsSpare ps → length is ≤ length ps → (j : ℤ) → Among j (keys (build is ps t)) ↔ (Among j is ⊎ Among j (keys t))
collects [] ps t h s le j = (inr, λ a. elim a [ inl none ↦ absurd none | inr b ↦ b ])
collects (i ∷ is) [] t h s le j = absurd (omega arith)
collects (i ∷ is) (p ∷ ps) t h s le j =
    together (j ≡ i) (Among j is) (Among j (keys t)) (Among j (keys (search t i p Top).tree)) (Among j (keys (build is ps (search t i p Top).tree)))
    (joined t i p s.0 (searched t i p h.ordered) j)
    (collects is ps (search t i p Top).tree (insert_is t i p h).tree s.1 (omega arith) j)

empty_red_black : IsRedBlack Leaf
empty_red_black = record { ordered = tt; root = tt; no_red_pair = tt; blacks = 0; height = refl }

pub build_collects : (new : List ℤ) (pads : List Pad) (n d : ℕ) → Every IsSpare pads → length new ≤ length pads → SufficeForKeys new n d → GivesKeys new (flat_meaning rbtree_program 5 (three (list_value new) (pads_value pads) (tree_value Leaf)) n d).answer
unfolding flat_meaning
build_collects new pads zero d s le a = absurd (omega (arith, a.enough_calls))
build_collects new pads (suc n) zero s le a = absurd (omega (arith, a.enough_frames))
build_collects new pads (suc n) (suc zero) s le a = absurd (omega (arith, a.enough_frames))
build_collects new pads (suc n) (suc (suc d)) s le a =
    let all = collects new pads Leaf empty_red_black s le in
    let same : (j : ℤ) → Among j (keys (build new pads Leaf)) ↔ Among j new = λ j. (λ m. elim ((all j).0 m) [ inl b ↦ b | inr none ↦ absurd none ], λ m. (all j).1 (inl m)) in
    let whole : IsRedBlack (build new pads Leaf) = build_red_black new pads Leaf empty_red_black in
    record {
      tree = build new pads Leaf;
      is_red_black = whole;
      same = same;
      nodes = length_different new (keys (build new pads Leaf)) whole.ordered same;
      gives = build_runs new pads Leaf 40 (stay_balanced new pads Leaf empty_red_black (omega (arith, a.few))) (suc n) d n 0 (omega (arith, a.enough_calls)) (omega arith);
    }
