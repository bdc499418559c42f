-- The clauses of a match, one after another, and the match from its parts.
use Rattle.std.proofs.Common.{◌≡◌, refl, sym, ap, ◌∙◌, subst, arith, ℕ, zero, suc, ◌≤◌, List, [], ◌∷◌, length, drop, Some, None, slice_get}
use Rattle.fip_trees.specs.declared.program.Clause.{Clause}
use Rattle.fip_trees.specs.Tree.{Argument, Clauses, NoClauses, MoreClauses}
use Rattle.fip_trees.specs.TreeView.{Case, clause, clauses}
use Rattle.lower_frame.specs.lowering_relation.Known.{Known}
use Rattle.lower_frame.specs.lowering_relation.Values.{Setting}
use Rattle.lower_frame.specs.lowering_relation.Choosing.{Meets, FewerCredits, MeetsFirst}
use Rattle.lower_frame.specs.lowering_relation.LoweredBodies as B
use Rattle.lower_frame.proofs.lowering_relation.LoweredLists.{fewer_same}
use Rattle.lower_frame.specs.lowering_relation.Written.{Written, size, Extends, IsAt}
use Rattle.lower_frame.specs.lowering_relation.Losing.{Loses, Resumes}
use Rattle.lower_frame.specs.lowering_relation.WellMatched.{WellMatchedBlock, WellMatchedClauses}
use Rattle.lower_parts.specs.declared.match_state.Matching.{Matching}
use Rattle.lower_parts.specs.declared.match_state.Progress.{Progress}
use Rattle.lower_frame.specs.Labels.{labels}
use Rattle.lower_frame.specs.Registers.{registers}
use Rattle.lower_parts.specs.Scenes.{sides_of, first_side}
use Rattle.lower_parts.specs.Clauses.{Begins, StartsIn, EndsIn, EndsMatch, MeetsAt, ClausesIn, JoinsKnown, WritesClause, WritesClauses, WritesMatch}
use Rattle.lower_parts.specs.Writing.{WritesBlock}
use Rattle.lower_parts.proofs.Matching.{writes_match, resumes_then}
use Rattle.fip_language.proofs.Facts.{same_some}

-- where clauses meet

pub joins_none : (k m : Known) → m ≡ k → JoinsKnown k None (Some m)
joins_none k m e = record {
  joined = m;
  is = refl;
  meets = subst (Meets k) (sym e) (record { names = λ x r h. h; barer = λ r t c h. h });
  before = subst (MeetsFirst k) (sym e) (record { credits = fewer_same k.credits; grows = omega arith });
  as_many = ap registers e;
}

pub joins_some : (k j m : Known) → Meets j m → Meets k m → FewerCredits j.credits m.credits → m.next ≡ j.next → registers m ≡ registers j → JoinsKnown k (Some j) (Some m)
joins_some k j m a b e f n = record {
  joined = m;
  is = refl;
  meets = b;
  before = (a, record { credits = e; grows = omega (arith, f) });
  as_many = n;
}

pub meets_at : (label : ℕ) (m k l : Known) (v u w : Written) → Extends v u → u.instrs ≡ v.instrs → IsAt u label (size v) → w ≡ u → Resumes m k → Loses k l → registers k ≡ registers m → registers l ≡ registers k → labels u ≡ labels v → MeetsAt label m v l w
meets_at label m k l v u w e f p g r h rm rl ll = subst (MeetsAt label m v l) (sym g) (record {
  extends = e;
  as_long = ap length f;
  placed = p;
  resumes = resumes_then m k l r h;
  as_many = rl ∙ rm;
  same_labels = ll;
})

pub ruleset joining = (joins_none, joins_some)

-- a clause from its parts
pub clause_written : (s : Setting) (g : Matching) (c : Case) (target : B.Target) (p q o : Progress) (v u x w : Written) (k l : Known) → StartsIn s g c.pattern p.clause v (sides_of p.sides.items) k u (sides_of q.sides.items) → q.clause ≡ suc p.clause → q.joined ≡ p.joined → (WellMatchedBlock s.types c.body → WritesBlock s k u c.body target l x) → EndsIn g target q.clause l x q.joined w o.joined → o.clause ≡ q.clause → o.sides ≡ q.sides → WritesClause s g c target p v o w
clause_written s g c target p q o v u x w k l a e f b d h i = record {
  by = λ well. record {
    begun = u;
    ended = x;
    known = k;
    last = l;
    starts = subst (λ z. StartsIn s g c.pattern p.clause v (sides_of p.sides.items) k u (sides_of z.items)) (sym i) a;
    body = b well;
    ends = subst (λ z. EndsIn g target z l x p.joined w o.joined) (sym h) (subst (λ z. EndsIn g target q.clause l x z w o.joined) f d);
    next = h ∙ e;
  };
}

-- clauses: those that follow are said of the whole
pub record FollowsClauses (s : Setting) (g : Matching) (target : B.Target) (p0 : Progress) (v0 : Written) (cs0 : Clauses) (p : Progress) (v : Written) (cs : Clauses) : Type 0 where
  pub by : (t : ℕ) → WellMatchedClauses s.types t cs0 → ((o : Progress) (w : Written) → ClausesIn s g cs target p v o w → ClausesIn s g cs0 target p0 v0 o w) × WellMatchedClauses s.types t cs

pub clauses_start : (s : Setting) (g : Matching) (target : B.Target) (p : Progress) (v : Written) (cs : Clauses) → FollowsClauses s g target p v cs p v cs
clauses_start s g target p v cs = record { by = λ t well. (λ o w h. h, well) }

pub clauses_at : (cs : List Clause) (i : ℕ) (c : Clause) → slice_get cs i ≡ Some c → clauses (drop i cs) ≡ MoreClauses (clause c).pattern (clause c).body (clauses (drop (suc i) cs))
clauses_at [] i c e = absurd (cc)
clauses_at (d ∷ cs) zero c e = ap (λ x. MoreClauses (clause x).pattern (clause x).body (clauses cs)) (same_some d c e)
clauses_at (d ∷ cs) (suc i) c e = clauses_at cs i c e

pub clauses_past : (cs : List Clause) (i : ℕ) → length cs ≤ i → clauses (drop i cs) ≡ NoClauses
clauses_past [] zero h = refl
clauses_past [] (suc i) h = refl
clauses_past (c ∷ cs) zero h = absurd (omega (arith, h))
clauses_past (c ∷ cs) (suc i) h = clauses_past cs i (omega (arith, h))

pub clauses_next : (s : Setting) (g : Matching) (target : B.Target) (p0 : Progress) (v0 : Written) (cs0 : Clauses) (p : Progress) (v : Written) (cs : List Clause) (i n : ℕ) (c : Clause) (q : Progress) (u : Written) → n ≡ suc i → slice_get cs i ≡ Some c → FollowsClauses s g target p0 v0 cs0 p v (clauses (drop i cs)) → WritesClause s g (clause c) target p v q u → FollowsClauses s g target p0 v0 cs0 q u (clauses (drop n cs))
clauses_next s g target p0 v0 cs0 p v cs i n c q u e f h w = subst (λ z. FollowsClauses s g target p0 v0 cs0 q u (clauses (drop z cs))) (sym e) (on (subst (FollowsClauses s g target p0 v0 cs0 p v) (clauses_at cs i c f) h))
  where
    rest : Clauses
    rest = clauses (drop (suc i) cs)

    on : FollowsClauses s g target p0 v0 cs0 p v (MoreClauses (clause c).pattern (clause c).body rest) → FollowsClauses s g target p0 v0 cs0 q u rest
    on h' = record { by = λ t well. let x = h'.by t well in (λ o z r. x.0 o z (q, u, w.by x.1.1, r), x.1.2) }

pub clauses_end : (s : Setting) (g : Matching) (target : B.Target) (p0 : Progress) (v0 : Written) (cs0 : Clauses) (p : Progress) (v : Written) (cs : List Clause) (i : ℕ) → length cs ≤ i → FollowsClauses s g target p0 v0 cs0 p v (clauses (drop i cs)) → WritesClauses s g cs0 target p0 v0 p v
clauses_end s g target p0 v0 cs0 p v cs i e h = on (subst (FollowsClauses s g target p0 v0 cs0 p v) (clauses_past cs i e) h)
  where
    on : FollowsClauses s g target p0 v0 cs0 p v NoClauses → WritesClauses s g cs0 target p0 v0 p v
    on h' = record { by = λ t well. (h'.by t well).0 p v (refl, refl) }

-- the whole
pub match_written : (s : Setting) (k : Known) (v : Written) (a : Argument) (t : ℕ) (c : Case) (cs : Clauses) (g : Matching) (w0 : Written) (target : B.Target) (p0 p1 p2 : Progress) (w1 w2 : Written) (l : Known) (w : Written) → Begins s k v a t c.pattern cs g w0 → sides_of p0.sides.items ≡ first_side ∷ [] → p0.clause ≡ 0 → p0.joined ≡ None → WritesClause s g c target p0 w0 p1 w1 → WritesClauses s g cs target p1 w1 p2 w2 → EndsMatch g p2.joined w2 l w → WritesMatch s k v a t c cs target l w
match_written s k v a t c cs g w0 target p0 p1 p2 w1 w2 l w begun at_start none unjoined first others ended = record {
  by = λ d x well. writes_match s k v a t c.pattern c.body cs g w0 target p0 p1 p2 w1 w2 l w begun at_start none unjoined (first.by well.1) (others.by t well.2) ended well.0 well.2 d x;
}
