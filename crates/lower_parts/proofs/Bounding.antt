-- How much a match has written: its clauses pay for what they hold, and its branches for its tests.
use Rattle.std.proofs.Common.{◌≡◌, ◌⊎◌, inl, inr, refl, sym, ap, ◌∙◌, subst, arith, ℕ, suc, ◌+◌, ◌*◌, ◌≤◌, List, [], ◌∷◌, length, map, Option, Some, None}
use Rattle.fip_trees.specs.Tree.{Argument, Pattern, BinderPattern, LiteralPattern, ConstructorPattern, Patterns, NoPatterns, MorePatterns, Block, Clauses, NoClauses, MoreClauses}
use Rattle.fip_trees.specs.TreeView.{Case}
use Rattle.cell_code.specs.declared.code.Instr.TheVariants as I
use Rattle.match_knowledge.specs.Patterns as M
use Rattle.match_knowledge.specs.Known.{Open}
use Rattle.match_knowledge.specs.View.{rows}
use Rattle.code_size.specs.match_cover.PatternView.{pattern_nodes}
use Rattle.lower_frame.specs.lowering_relation.Known.{Known}
use Rattle.lower_frame.specs.lowering_relation.Values.{Setting}
use Rattle.lower_frame.specs.lowering_relation.LoweredBodies as B
use Rattle.lower_frame.specs.lowering_relation.Written.{Written, size}
use Rattle.lower_frame.specs.lowering_relation.Rows.{row_of, rows_of, patterns_in}
use Rattle.lower_frame.specs.lowering_relation.Spots as S
use Rattle.lower_frame.proofs.lowering_relation.Placing.{one_longer}
use Rattle.code_size.specs.Bounds.{most_for}
use Rattle.code_size.specs.Places as P
use Rattle.code_size.specs.Places.{argument_places, block_places, clauses_places, match_branches}
use Rattle.lower_parts.specs.declared.match_state.Matching.{Matching}
use Rattle.lower_parts.specs.declared.match_state.Progress.{Progress}
use Rattle.lower_frame.specs.Registers.{registers, HasRoom}
use Rattle.lower_frame.specs.Labels.{labels}
use Rattle.lower_parts.specs.Growth.{Adds, Sheds, Spends, Stay, IsRoom, left, side_cost, sides_cost, sides_left}
use Rattle.lower_frame.specs.Positions.{spot_of}
use Rattle.lower_parts.specs.Scenes.{patterns_of, sides_of, first_side}
use Rattle.lower_parts.specs.Clauses.{Spotted, Begins, GoesToEnd, EndsInto, EndsIn, EndsMatch, ClauseIn, ClausesIn}
use Rattle.lower_parts.proofs.Shedding.{full_most}
use Rattle.lower_parts.proofs.Writing.{argument_one}

-- patterns without names, in the words of places

mutual
  bare_is : (q : Pattern) → P.bare q ≡ row_of q
  bare_is (BinderPattern b) = refl
  bare_is (LiteralPattern i p) = refl
  bare_is (ConstructorPattern t d c n p ps) = ap (M.Test t (Rattle.match_knowledge.specs.declared.heads.Head.TheVariants.Tag c)) (bares_are ps)

  bares_are : (ps : Patterns) → P.bare_all ps ≡ rows_of ps
  bares_are NoPatterns = refl
  bares_are (MorePatterns p ps) = ap (λ x. M.MorePatterns x (P.bare_all ps)) (bare_is p) ∙ ap (M.MorePatterns (row_of p)) (bares_are ps)

pub rows_are : (q : Pattern) (cs : Clauses) → P.rows q cs ≡ map row_of (q ∷ patterns_in cs)
rows_are q NoClauses = ap (λ x. x ∷ []) (bare_is q)
rows_are q (MoreClauses p b cs) = ap (λ x. x ∷ P.rows p cs) (bare_is q) ∙ ap (λ x. row_of q ∷ x) (rows_are p cs)

module _ (s : Setting) (g : Matching) (n : ℕ) (room : IsRoom n (spot_of g.choice.root)) (many : registers g.entry ≡ n) where
  abbrev cost : Progress → ℕ
  cost p = sides_cost n s.types (rows g.choice.rows.items) (sides_of p.sides.items)

  abbrev branches_left : Progress → ℕ
  branches_left p = sides_left n s.types (rows g.choice.rows.items) (sides_of p.sides.items)

  -- the end of a clause

  gone : (o : ℕ) (l w : Written) → GoesToEnd g o l w → (size w ≤ suc (size l)) × (labels w ≡ labels l)
  gone o l w (inl e) = let x : size w ≡ suc (size l) = ap size e ∙ one_longer l (I.Jump g.end) in (omega (arith, x), ap labels e)
  gone o l w (inr e) = let x : size w ≡ size l = ap size e.1 in (omega (arith, x), ap labels e.1)

  shed_most : (k l : Known) (v w : Written) → Sheds k v l w → registers k ≡ n → size w ≤ size v + n
  shed_most k l v w h e = let x = h.emptied in omega (arith, x, full_most k.held, e)

  ended : (target : B.Target) (o : ℕ) (k l : Known) (v : Written) (j : Option Known) (w : Written) (jl : Option Known) → EndsIn g target o l v j w jl → registers k ≡ n → Stay target k l → (size w ≤ size v + suc n) × (labels w ≡ labels v)
  ended B.Return o k l v j w jl e f st = let x : size w ≡ size v = ap size e.0 in (omega (arith, x), ap labels e.0)
  ended (B.Into ds) o k l v j w jl e f st =
      let x = gone o e.left w e.goes in
      let y = shed_most l e.known v e.left e.sheds (st ∙ f) in
      let z = x.0 in
      (omega (arith, z, y), x.1 ∙ e.sheds.same_labels)

  clause_pays : (q : Pattern) (b : Block) (target : B.Target) (p : Progress) (v : Written) (o : Progress) (w : Written) → ClauseIn s g (record { pattern = q; body = b }) target p v o w → Spends (cost p + (most_for n (block_places s.types b) + suc n)) (branches_left p + block_places s.types b) v (cost o) (branches_left o) w
  clause_pays q b target p v o w c = record {
    spent_instructions = whole (size v) (cost p) (size c.starts.chosen) (cost o) (size c.begun) (most_for n (block_places s.types b)) (size c.ended) (size w) tests.spent_instructions c.starts.as_long body.more_instructions end.0;
    spent_labels = whole_labels (labels v) (branches_left p) (labels c.starts.chosen) (branches_left o) (labels c.begun) (block_places s.types b) (labels c.ended) (labels w) tests.spent_labels c.starts.same_labels body.more_labels end.1;
  }
    where
      known_many : registers c.known ≡ n
      known_many = c.starts.as_many ∙ many

      tests : Spends (cost p) (branches_left p) v (cost o) (branches_left o) c.starts.chosen
      tests = c.starts.chooses.few n room

      body : Adds (most_for n (block_places s.types b)) (block_places s.types b) c.begun c.ended
      body = subst (λ z. Adds (most_for z (block_places s.types b)) (block_places s.types b) c.begun c.ended) known_many c.body.few

      end : (size w ≤ size c.ended + suc n) × (labels w ≡ labels c.ended)
      end = ended target o.clause c.known c.last c.ended p.joined w o.joined c.ends known_many c.body.stay

      whole : (v p c o b m e w : ℕ) → c + o ≤ v + p → b ≡ c → e ≤ b + m → w ≤ e + suc n → w + o ≤ v + (p + (m + suc n))
      whole v p c o b m e w h i j k = omega (arith, h, i, j, k)

      whole_labels : (v p c o b m e w : ℕ) → c + o ≤ v + p → b ≡ c → e ≤ b + m → w ≡ e → w + o ≤ v + (p + m)
      whole_labels v p c o b m e w h i j k = omega (arith, h, i, j, k)

  more_pay : (q : Pattern) (b : Block) (cs : Clauses) (p : Progress) (v : Written) (r : Progress) (u : Written) (o : Progress) (w : Written) → Spends (cost p + (most_for n (block_places s.types b) + suc n)) (branches_left p + block_places s.types b) v (cost r) (branches_left r) u → Spends (cost r + most_for n (clauses_places s.types cs)) (branches_left r + clauses_places s.types cs) u (cost o) (branches_left o + length (patterns_in cs)) w → Spends (cost p + most_for n (clauses_places s.types (MoreClauses q b cs))) (branches_left p + clauses_places s.types (MoreClauses q b cs)) v (cost o) (branches_left o + suc (length (patterns_in cs))) w
  more_pay q b cs p v r u o w first rest = record {
    spent_instructions = whole (size v) (cost p) (block_places s.types b) (size u) (cost r) (clauses_places s.types cs) (size w) (cost o) (pattern_nodes (P.bare q)) first.spent_instructions rest.spent_instructions;
    spent_labels = whole_labels (labels v) (branches_left p) (block_places s.types b) (labels u) (branches_left r) (clauses_places s.types cs) (labels w) (branches_left o) (pattern_nodes (P.bare q)) (length (patterns_in cs)) first.spent_labels rest.spent_labels;
  }
    where
      whole : (v p b u r c w o m : ℕ) → u + r ≤ v + (p + (most_for n b + suc n)) → w + o ≤ u + (r + most_for n c) → w + o ≤ v + (p + most_for n (suc (m + b) + c))
      whole v p b u r c w o m h i = omega (arith, h, i)

      whole_labels : (v p b u r c w o m l : ℕ) → u + r ≤ v + (p + b) → w + (o + l) ≤ u + (r + c) → w + (o + suc l) ≤ v + (p + (suc (m + b) + c))
      whole_labels v p b u r c w o m l h i = omega (arith, h, i)

  clauses_pay : (cs : Clauses) (target : B.Target) (p : Progress) (v : Written) (o : Progress) (w : Written) → ClausesIn s g cs target p v o w → Spends (cost p + most_for n (clauses_places s.types cs)) (branches_left p + clauses_places s.types cs) v (cost o) (branches_left o + length (patterns_in cs)) w
  clauses_pay NoClauses target p v o w c = subst (λ x. Spends (cost p + most_for n 0) (branches_left p + 0) v (cost x) (branches_left x + 0) w) (sym c.0) (subst (λ x. Spends (cost p + most_for n 0) (branches_left p + 0) v (cost p) (branches_left p + 0) x) (sym c.1) (none (cost p) (branches_left p)))
    where
      none : (a b : ℕ) → Spends (a + most_for n 0) (b + 0) v a (b + 0) v
      none a b = record { spent_instructions = omega arith; spent_labels = omega arith }
  clauses_pay (MoreClauses q b cs) target p v o w c = more_pay q b cs p v c.0 c.1 o w (clause_pays q b target p v c.0 c.1 c.2) (clauses_pay cs target c.0 c.1 o w c.3)

  -- as many registers where clauses meet

  abbrev SomeMany : Option Known → Type 0
  SomeMany j = (k : Known) × (j ≡ Some k) × (registers k ≡ n)

  joined_many : (o : ℕ) (k l : Known) (v : Written) (j : Option Known) (w : Written) (jl : Option Known) → EndsInto g o l v j w jl → registers k ≡ n → registers l ≡ registers k → (j ≡ None) ⊎ SomeMany j → SomeMany jl
  joined_many o k l v j w jl e f st before = (e.joins.joined, e.joins.is, by_before j before e.joins.as_many)
    where
      by_before : (i : Option Known) → (i ≡ None) ⊎ SomeMany i → Rattle.lower_parts.specs.Clauses.AsMany i e.known e.joins.joined → registers e.joins.joined ≡ n
      by_before None b a = a ∙ e.sheds.as_many ∙ st ∙ f
      by_before (Some x) (inl b) a = absurd (cc)
      by_before (Some x) (inr b) a = a ∙ ap registers (same_some x b.0 b.1) ∙ b.2
        where
          same_some : (x y : Known) → Some x ≡ Some y → x ≡ y
          same_some x y h = cc

  clause_joins : (c : Case) (ds : List ℕ) (p : Progress) (v : Written) (o : Progress) (w : Written) → ClauseIn s g c (B.Into ds) p v o w → (p.joined ≡ None) ⊎ SomeMany p.joined → SomeMany o.joined
  clause_joins c ds p v o w h before = joined_many o.clause h.known h.last h.ended p.joined w o.joined h.ends (h.starts.as_many ∙ many) h.body.stay before

  clauses_join : (cs : Clauses) (ds : List ℕ) (p : Progress) (v : Written) (o : Progress) (w : Written) → ClausesIn s g cs (B.Into ds) p v o w → SomeMany p.joined → SomeMany o.joined
  clauses_join NoClauses ds p v o w c h = subst (λ (x : Progress). SomeMany x.joined) (sym c.0) h
  clauses_join (MoreClauses q b cs) ds p v o w c h = clauses_join cs ds c.0 c.1 o w c.3 (clause_joins (record { pattern = q; body = b }) ds p v c.0 c.1 c.2 (inr h))

-- the whole

begun_room : (k : Known) (root : S.Spot) (low : ℕ) (m : Known) → low ≡ m.next → Spotted low k.next root → HasRoom m k → IsRoom (registers m) root
begun_room k root low m e h r = record {
  within = λ z x. let f = h.fresh z x in let a = f.0 in let b = f.1 in omega (arith, a, b, r, e);
  differ = h.differ;
}

match_ended : (g : Matching) (j : Option Known) (v : Written) (l : Known) (w : Written) → EndsMatch g j v l w → (size w ≡ size v) × (labels w ≡ labels v)
match_ended g None v l w e = (ap size e, ap labels e)
match_ended g (Some m) v l w e = (e.as_long, e.same_labels)

module _ (s : Setting) (k : Known) (v : Written) (a : Argument) (t : ℕ) (q : Pattern) (b : Block) (cs : Clauses) (g : Matching) (w0 : Written) (target : B.Target) (p0 p1 p2 : Progress) (w1 w2 : Written) (l : Known) (w : Written) (begun : Begins s k v a t q cs g w0) (at_start : sides_of p0.sides.items ≡ first_side ∷ []) (unjoined : p0.joined ≡ None) (clause : ClauseIn s g (record { pattern = q; body = b }) target p0 w0 p1 w1) (clauses : ClausesIn s g cs target p1 w1 p2 w2) (closed : EndsMatch g p2.joined w2 l w) where
  abbrev n : ℕ
  n = registers begun.known

  known_many : n ≡ registers k
  known_many = begun.computes.as_many

  room : IsRoom n (spot_of g.choice.root)
  room = begun_room g.entry (spot_of g.choice.root) begun.known.next begun.known refl begun.positions.spotted begun.room

  many : registers g.entry ≡ n
  many = begun.as_many ∙ sym known_many

  abbrev branches : ℕ
  branches = match_branches s.types (P.rows q cs)

  same_rows : rows g.choice.rows.items ≡ P.rows q cs
  same_rows = begun.positions.rows.same ∙ ap (map row_of) begun.patterns ∙ sym (rows_are q cs)

  tests : left s.types (rows g.choice.rows.items) (Open []) ≡ branches
  tests = ap (λ x. left s.types x (Open [])) same_rows

  last_one : (a : ℕ) → a + 0 ≡ a
  last_one a = omega arith

  cost_is : cost s g n room many p0 ≡ side_cost n branches
  cost_is = ap (sides_cost n s.types (rows g.choice.rows.items)) at_start ∙ last_one (side_cost n (left s.types (rows g.choice.rows.items) (Open []))) ∙ ap (side_cost n) tests

  left_is : branches_left s g n room many p0 ≡ branches
  left_is = ap (sides_left n s.types (rows g.choice.rows.items)) at_start ∙ last_one (left s.types (rows g.choice.rows.items) (Open [])) ∙ tests

  first : Spends (cost s g n room many p0 + (most_for n (block_places s.types b) + suc n)) (branches_left s g n room many p0 + block_places s.types b) w0 (cost s g n room many p1) (branches_left s g n room many p1) w1
  first = clause_pays s g n room many q b target p0 w0 p1 w1 clause

  others : Spends (cost s g n room many p1 + most_for n (clauses_places s.types cs)) (branches_left s g n room many p1 + clauses_places s.types cs) w1 (cost s g n room many p2) (branches_left s g n room many p2 + length (patterns_in cs)) w2
  others = clauses_pay s g n room many cs target p1 w1 p2 w2 clauses

  ends : (size w ≡ size w2) × (labels w ≡ labels w2)
  ends = match_ended g p2.joined w2 l w closed

  patterns : length (patterns_of g.choice) ≡ suc (length (patterns_in cs))
  patterns = ap length begun.patterns

  whole : (v a m bp c z0 z1 z2 w c0 c1 c2 br : ℕ) → 1 ≤ a → z0 ≤ v + (a + n) → c0 ≡ side_cost n br → z1 + c1 ≤ z0 + (c0 + (most_for n bp + suc n)) → z2 + c2 ≤ z1 + (c1 + most_for n c) → w ≡ z2 → w ≤ v + most_for n (suc (a + (suc (m + bp) + c)) + 2 * br)
  whole v a m bp c z0 z1 z2 w c0 c1 c2 br one e f h i j = omega (arith, one, e, f, h, i, j)

  whole_labels : (v a m bp c z0 z1 z2 w b0 b1 b2 br ps : ℕ) → 1 ≤ a → z0 ≤ v + (2 + suc ps) → b0 ≡ br → z1 + b1 ≤ z0 + (b0 + bp) → z2 + (b2 + ps) ≤ z1 + (b1 + c) → w ≡ z2 → w ≤ v + (suc (a + (suc (m + bp) + c)) + 2 * br)
  whole_labels v a m bp c z0 z1 z2 w b0 b1 b2 br ps one e f h i j = omega (arith, one, e, f, h, i, j)

  abbrev spread : ℕ
  spread = suc (argument_places a + (suc (pattern_nodes (P.bare q) + block_places s.types b) + clauses_places s.types cs)) + 2 * branches

  pub match_few : Adds (most_for (registers k) spread) spread v w
  match_few = subst (λ x. Adds (most_for x spread) spread v w) known_many (record {
    more_instructions = whole (size v) (argument_places a) (pattern_nodes (P.bare q)) (block_places s.types b) (clauses_places s.types cs) (size w0) (size w1) (size w2) (size w) (cost s g n room many p0) (cost s g n room many p1) (cost s g n room many p2) branches (argument_one a)
        (subst (λ x. size w0 ≤ size v + (argument_places a + x)) (sym known_many) begun.few.more_instructions) cost_is first.spent_instructions others.spent_instructions ends.0;
    more_labels = whole_labels (labels v) (argument_places a) (pattern_nodes (P.bare q)) (block_places s.types b) (clauses_places s.types cs) (labels w0) (labels w1) (labels w2) (labels w) (branches_left s g n room many p0) (branches_left s g n room many p1) (branches_left s g n room many p2) branches (length (patterns_in cs)) (argument_one a)
        (subst (λ x. labels w0 ≤ labels v + (2 + x)) patterns begun.few.more_labels) left_is first.spent_labels others.spent_labels ends.1;
  })

  pub match_stays : Stay target k l
  match_stays = by_target target clause clauses
    where
      same_some : (x y : Known) → Some x ≡ Some y → x ≡ y
      same_some x y h = cc

      met : (j : Option Known) (x : Known) → j ≡ Some x → registers x ≡ n → EndsMatch g j w2 l w → registers l ≡ registers k
      met None x e f h = absurd (cc)
      met (Some y) x e f h = h.as_many ∙ ap registers (same_some y x e) ∙ f ∙ known_many

      by_target : (x : B.Target) → ClauseIn s g (record { pattern = q; body = b }) x p0 w0 p1 w1 → ClausesIn s g cs x p1 w1 p2 w2 → Stay x k l
      by_target B.Return c d = tt
      by_target (B.Into ds) c d =
          let j = clauses_join s g n room many cs ds p1 w1 p2 w2 d (clause_joins s g n room many (record { pattern = q; body = b }) ds p0 w0 p1 w1 c (inl unjoined)) in
          met p2.joined j.0 j.1 j.2 closed
