-- From what the calls of a function say, one after another, to what it has written: a clause's start, a let into
-- registers, a match and an instance.
use Rattle.std.proofs.Common.{◌≡◌, sym, ap, ◌∙◌, subst, ℕ, ◌≤◌, suc, Bool, true, List, [], ◌∷◌, length, map, drop, get_or, None}
use Rattle.std.specs.declared.vec.Vec.{Vec}
use Rattle.std.specs.declared.alloc.Global.{Global}
use Rattle.std.specs.declared.boxed.Box.{Box}
use Rattle.fip_language.specs.declared.Place.{Place}
use Rattle.fip_base.specs.declared.core_form.MatchKind.{MatchKind}
use Rattle.fip_trees.specs.declared.program.Argument.{Argument}
use Rattle.fip_trees.specs.declared.program.Binder.{Binder}
use Rattle.fip_trees.specs.declared.program.Binding.{Binding, out-Binding}
use Rattle.fip_trees.specs.declared.program.Clause.{Clause}
use Rattle.fip_trees.specs.declared.program.Expression.{Expression}
use Rattle.fip_trees.specs.declared.program.Expression.TheVariants as EV
use Rattle.fip_trees.specs.declared.needs.Need.{Need}
use Rattle.fip_trees.specs.Tree.{Pattern, Instance, Match, Clauses}
use Rattle.fip_trees.specs.TreeView.{Case, argument, expression, binding, clause, clauses, is_destructive}
use Rattle.fip_trees.proofs.TreeViews.{expression_match}
use Rattle.cell_code.specs.declared.code.Instr.{Instr}
use Rattle.lower_parts.specs.lowering_relation.Known.{Known}
use Rattle.lower_parts.specs.lowering_relation.Values.{Setting}
use Rattle.lower_parts.specs.lowering_relation.LoweredBodies.{Target, Into, Return, with_names, reserved, registers_for}
use Rattle.lower_parts.specs.lowering_relation.LoweredFunctions.{known_at_start}
use Rattle.lower_parts.specs.lowering_relation.Landing.{Side}
use Rattle.lower_parts.specs.lowering_relation.Losing.{Loses, Resumes}
use Rattle.lower_parts.specs.lowering_relation.Entering.{entering_root}
use Rattle.lower_parts.specs.lowering_relation.Written.{Written, size, Extends, IsAt, settled, place_of}
use Rattle.lower_parts.specs.lowering_relation.WellMatched.{WellMatched, WellMatchedBlock}
use Rattle.lower_parts.specs.declared.match_state.Matching.{Matching}
use Rattle.lower_parts.specs.declared.match_state.Progress.{Progress}
use Rattle.lower_parts.specs.lower_frame.Labels.{labels}
use Rattle.lower_parts.specs.lower_frame.Registers.{registers}
use Rattle.lower_parts.specs.lower_frame.Positions.{spot_of}
use Rattle.lower_parts.specs.Scenes.{ChoosesIf, first_side, sides_of}
use Rattle.lower_parts.specs.Bodies.{span_block, Asked, AskedBlock, AskedClauses, Lays}
use Rattle.lower_parts.specs.Matches.{BeginsLaid, EndsMatchLaid, ClauseLays, ClausesLay}
use Rattle.lower_parts.specs.Clauses.{Begins, EndsMatch, StartsIn, WritesClause, WritesClauses}
use Rattle.cell_lower.specs.Lowered.{IsCodeOf}
use Rattle.lower_parts.specs.Writing.{Binds, Writes, WritesBlock}
use Rattle.lower_parts.proofs.lower_frame.Losing.{loses_same, loses_nothing, loses_used, loses_taken, loses_widened}
use Rattle.lower_parts.proofs.Beginning.{starts_in}
use Rattle.lower_parts.proofs.Clauses.{match_written}
use Rattle.lower_parts.proofs.Composed.{lays_match}
use Rattle.lower_parts.proofs.Expressions.{bound_into, written_match}
use Rattle.lower_parts.proofs.Following.{laid_as, asked_first, asked_others}
use Rattle.cell_lower.proofs.Programs.{is_code}

pub ruleset losing = (loses_same, loses_nothing, loses_used, loses_taken, loses_widened)

pub starts_from : (s s' : Setting) (g : Matching) (q q' : Pattern) (i label : ℕ) (v chosen shown put w : Written) (ds es : List Side) (copied resumed tested opened l : Known) → s' ≡ s → q ≡ q' → ChoosesIf s.types g.choice i v ds chosen es true → (length g.choice.rows.items ≤ suc i → es ≡ []) → tested ≡ resumed → shown ≡ chosen → Extends shown put → put.instrs ≡ shown.instrs → IsAt put label (size shown) → w ≡ put → label ≡ get_or g.choice.entries.items i 0 → copied ≡ g.entry → Resumes copied resumed → opened ≡ entering_root s' g.choice.takes q' (spot_of g.choice.root) tested → Loses opened l → registers resumed ≡ registers copied → registers l ≡ registers opened → labels put ≡ labels shown → StartsIn s g q i v ds l w es
starts_from s s' g q q' i label v chosen shown put w ds es copied resumed tested opened l same qs c a fr sh e f p written at cp r o lost ro rl ll =
    starts_in s g q i label v chosen put w ds es copied resumed opened l c a
    (subst (λ x. Extends x put) sh e) (f ∙ ap (λ (x : Written). x.instrs) sh) (subst (λ x. IsAt put label (size x)) sh p) written at cp r
    (o ∙ ap (λ x. entering_root x g.choice.takes q' (spot_of g.choice.root) tested) same ∙ ap (λ x. entering_root s g.choice.takes x (spot_of g.choice.root) tested) (sym qs) ∙ ap (entering_root s g.choice.takes q (spot_of g.choice.root)) fr) lost ro rl (ll ∙ ap labels sh)

pub bound_from : (s s' : Setting) (k k0 m l : Known) (v v0 u z : Written) (b : Binding) (e : Expression) (rs ds names : List ℕ) (xs ys : List Binder) → s' ≡ s → e ≡ (out-Binding b).bound → xs ≡ (out-Binding b).binders.items → ys ≡ (out-Binding b).binders.items → ds ≡ rs → names ≡ rs → rs ≡ registers_for k.next xs → k0 ≡ reserved k xs → v0 ≡ v → (WellMatched s'.types (expression e) → Writes s' k0 v0 (expression e) (Into ds) m u) → l ≡ with_names m ys names → z ≡ u → WellMatched s.types (binding b).bound → Binds s k v (binding b).binders (binding b).bound l z
bound_from s s' k k0 m l v v0 u z b e rs ds names xs ys same is ex ey ed en to at from w n kept well =
    bound_into s.types s k k0 m l v v0 u z b e rs is (at ∙ ap (reserved k) ex) from (to ∙ ap (registers_for k.next) ex)
    (subst (λ (x : Setting). WellMatched x.types (expression e) → Writes x k0 v0 (expression e) (Into rs) m u) same (subst (λ x. WellMatched s'.types (expression e) → Writes s' k0 v0 (expression e) (Into x) m u) ed w))
    (n ∙ ap (λ x. with_names m x names) ey ∙ ap (with_names m (out-Binding b).binders.items) en) kept well

pub match_from : (s s1 s2 : Setting) (k : Known) (v : Written) (e : Expression) (d : MatchKind) (t : ℕ) (p : Place) (a : Argument) (c : Box Clause Global) (cs : Vec Clause Global) (c1 c2 : Clause) (ds1 ds2 : List Clause) (g : Matching) (w0 : Written) (target : Target) (p0 p1 p2 : Progress) (w1 w2 : Written) (l : Known) (w : Written) → e ≡ EV.Match d t p a c cs → s1 ≡ s → s2 ≡ s → c1 ≡ c.value → c2 ≡ c.value → ds1 ≡ cs.items → ds2 ≡ cs.items → Begins s k v (argument a) t (clause c1).pattern (clauses ds1) g w0 → sides_of p0.sides.items ≡ first_side ∷ [] → p0.clause ≡ 0 → p0.joined ≡ None → WritesClause s1 g (clause c2) target p0 w0 p1 w1 → WritesClauses s2 g (clauses ds2) target p1 w1 p2 w2 → EndsMatch g p2.joined w2 l w → WellMatched s.types (expression e) → Writes s k v (expression e) target l w
match_from s s1 s2 k v e d t p a c cs c1 c2 ds1 ds2 g w0 target p0 p1 p2 w1 w2 l w is e1 e2 ec1 ec2 ed1 ed2 begun start none unjoined first others ended =
    written_match s k l v w e d t p a c cs target is
    (match_written s k v (argument a) t (clause c.value) (clauses cs.items) g w0 target p0 p1 p2 w1 w2 l w
    (subst (λ x. Begins s k v (argument a) t (clause x).pattern (clauses cs.items) g w0) ec1 (subst (λ x. Begins s k v (argument a) t (clause c1).pattern (clauses x) g w0) ed1 begun)) start none unjoined
    (subst (λ x. WritesClause s g (clause x) target p0 w0 p1 w1) ec2 (subst (λ x. WritesClause x g (clause c2) target p0 w0 p1 w1) e1 first))
    (subst (λ x. WritesClauses s g (clauses x) target p1 w1 p2 w2) ed2 (subst (λ x. WritesClauses x g (clauses ds2) target p1 w1 p2 w2) e2 others)) ended)

pub code_from : (s s' : Setting) (n : ℕ) (d : Instance) (k l : Known) (v w : Written) (code : List Instr) → s' ≡ s → k ≡ known_at_start s n d → v ≡ record { instrs = []; places = []; maps = [] } → (WellMatchedBlock s'.types d.body → WritesBlock s' k v d.body Return l w) → code ≡ map (settled (place_of w.places)) w.instrs → IsCodeOf s d code
code_from s s' n d k l v w code same e f b h = is_code s n d k l v w code e f (subst (λ (x : Setting). WellMatchedBlock x.types d.body → WritesBlock x k v d.body Return l w) same b) h

-- how a match is laid out
pub match_laid_from : (s s1 s2 s3 : Setting) (fip fip1 fip2 : Bool) (ns ms os : List Need) (k : Known) (v : Written) (e : Expression) (d : MatchKind) (t : ℕ) (p : Place) (a : Argument) (c : Box Clause Global) (cs : Vec Clause Global) (dd : Bool) (c0 c1 : Clause) (ds0 ds1 : List Clause) (target : Target) (g : Matching) (w0 : Written) (p0 : Progress) (k0 : Known) (p1 : Progress) (k1 : Known) (w1 : Written) (p2 : Progress) (k2 : Known) (w2 : Written) (l : Known) (w : Written) → e ≡ EV.Match d t p a c cs → s1 ≡ s → s2 ≡ s → s3 ≡ s → fip1 ≡ fip → fip2 ≡ fip → ms ≡ drop 1 ns → os ≡ drop (span_block (clause c.value).body) ms → dd ≡ is_destructive d → c0 ≡ c.value → c1 ≡ c.value → ds0 ≡ cs.items → ds1 ≡ cs.items → sides_of p0.sides.items ≡ first_side ∷ [] → p0.clause ≡ 0 → p0.joined ≡ None → k0 ≡ g.entry → BeginsLaid s fip ns k v dd (argument a) t (clause c0) (clauses ds0) target g w0 → (AskedBlock s1 (drop 1 ms) (clause c1).body → ClauseLays s1 fip1 g (clause c1) target p0 k0 w0 p1 k1 w1) → ((u : ℕ) → AskedClauses s2 os u (clauses ds1) → ClausesLay s2 fip2 g (clauses ds1) target p1 k1 w1 p2 k2 w2) → EndsMatchLaid s3 g p2.joined k2 w2 l w → Asked s ns (expression e) → Lays s fip k v (expression e) target l w
match_laid_from s s1 s2 s3 fip fip1 fip2 ns ms os k v e d t p a c cs dd c0 c1 ds0 ds1 target g w0 p0 k0 p1 k1 w1 p2 k2 w2 l w is e1 e2 e3 f1 f2 walked further ed ec0 ec1 es0 es1 start none unjoined frame begun one more ended =
    laid_as s fip ns k l v w e (Match (is_destructive d) t p (argument a) head.pattern head.body others) target (ap expression is ∙ expression_match d t p a c cs)
    (λ asked. lays_match s fip ns k v (is_destructive d) (argument a) t p head others target g w0 p0 k0 p1 k1 w1 p2 k2 w2 l w start none unjoined frame begins
    (first (asked_first s ns ms (is_destructive d) t p (argument a) head.pattern head.body others walked asked))
    (rest t (asked_others s ns ms os (is_destructive d) t p (argument a) head.pattern head.body others walked further asked))
    (subst (λ x. EndsMatchLaid x g p2.joined k2 w2 l w) e3 ended) asked)
  where
    head : Case
    head = clause c.value

    others : Clauses
    others = clauses cs.items

    begins : BeginsLaid s fip ns k v (is_destructive d) (argument a) t head others target g w0
    begins = subst (λ x. BeginsLaid s fip ns k v x (argument a) t head others target g w0) ed
        (subst (λ x. BeginsLaid s fip ns k v dd (argument a) t (clause x) others target g w0) ec0
        (subst (λ x. BeginsLaid s fip ns k v dd (argument a) t (clause c0) (clauses x) target g w0) es0 begun))

    first : AskedBlock s (drop 1 ms) head.body → ClauseLays s fip g head target p0 k0 w0 p1 k1 w1
    first = subst (λ x. AskedBlock s (drop 1 ms) (clause x).body → ClauseLays s fip g (clause x) target p0 k0 w0 p1 k1 w1) ec1
        (subst (λ x. AskedBlock s (drop 1 ms) (clause c1).body → ClauseLays s x g (clause c1) target p0 k0 w0 p1 k1 w1) f1
        (subst (λ x. AskedBlock x (drop 1 ms) (clause c1).body → ClauseLays x fip1 g (clause c1) target p0 k0 w0 p1 k1 w1) e1 one))

    rest : (u : ℕ) → AskedClauses s os u others → ClausesLay s fip g others target p1 k1 w1 p2 k2 w2
    rest = subst (λ x. (u : ℕ) → AskedClauses s os u (clauses x) → ClausesLay s fip g (clauses x) target p1 k1 w1 p2 k2 w2) es1
        (subst (λ x. (u : ℕ) → AskedClauses s os u (clauses ds1) → ClausesLay s x g (clauses ds1) target p1 k1 w1 p2 k2 w2) f2
        (subst (λ x. (u : ℕ) → AskedClauses x os u (clauses ds1) → ClausesLay x fip2 g (clauses ds1) target p1 k1 w1 p2 k2 w2) e2 more))
