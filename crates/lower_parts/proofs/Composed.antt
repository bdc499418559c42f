-- A whole match: how it begins, its first clause, the others, and the place where they meet.
use Rattle.std.proofs.Common.{◌≡◌, ◌⊎◌, inl, inr, refl, sym, ap, ◌∙◌, subst, arith, true≢false, ℕ, suc, ◌<◌, ◌≤◌, Bool, false, List, [], ◌∷◌, map, drop, Option, Some, None, slice_get}
use Rattle.std.specs.Prelude.{not, ◌&&◌}
use Rattle.std.proofs.lemmas.Bool.{cases_eq}
use Rattle.fip_language.specs.Every.{Among}
use Rattle.fip_language.specs.declared.Place.{Place}
use Rattle.fip_trees.specs.declared.needs.Need.{Need}
use Rattle.fip_trees.specs.Sizes.{number}
use Rattle.fip_trees.specs.Tree.{Argument, Pattern, Expression, Match, Block, Clauses, NoClauses, MoreClauses}
use Rattle.fip_trees.specs.TreeView.{Case}
use Rattle.cell_code.specs.Plain.{PlainFunction, PlainCode}
use Rattle.lower_frame.specs.code_rules.Codes.{label_at}
use Rattle.match_knowledge.specs.Known.{Open}
use Rattle.match_knowledge.specs.Patterns.{IsPattern}
use Rattle.lower_frame.specs.lowering_relation.declared.held.Held.{Held}
use Rattle.lower_frame.specs.lowering_relation.declared.held.Held.TheVariants as H
use Rattle.lower_frame.specs.lowering_relation.Known.{Known}
use Rattle.lower_frame.specs.lowering_relation.Values.{Setting, is_scalar}
use Rattle.lower_frame.specs.lowering_relation.LoweredBodies.{Target, Return, Into}
use Rattle.lower_frame.specs.lowering_relation.Written.{Written, size, Extends}
use Rattle.lower_frame.specs.lowering_relation.Rows.{row_of, patterns_in}
use Rattle.lower_frame.specs.lowering_relation.Spots as S
use Rattle.lower_frame.proofs.lowering_relation.Placing.{same_extends, extends_on, front}
use Rattle.lower_frame.specs.lowering_relation.Describing.{held_at, kinds_of}
use Rattle.lower_frame.specs.lowering_relation.Labels.{reported, Takes, Reports}
use Rattle.lower_frame.specs.lowering_relation.Tests.{Choice, ChunkLaid, SidesLaid}
use Rattle.lower_frame.specs.lowering_relation.Matches.{BuiltRight, Forgets, MatchBegins, MatchLaid, clause_patterns, wide, wide_at, widened}
use Rattle.lower_frame.specs.lowering_relation.Joins.{ClauseEnds, Meets}
use Rattle.lower_frame.specs.lowering_relation.LaidBodies.{ExpressionLaid, ClausesLaid, ClausesMeet}
use Rattle.lower_frame.specs.Credits.{Accounted}
use Rattle.lower_frame.specs.Labels.{Rising}
use Rattle.lower_frame.specs.Positions.{reaching, spot_of}
use Rattle.lower_frame.specs.Registers.{registers}
use Rattle.lower_parts.specs.declared.match_state.Matching.{Matching}
use Rattle.lower_parts.specs.declared.match_state.Progress.{Progress}
use Rattle.lower_parts.specs.Marks.{AreMarked, MarkedFor, MarkedIf, MatchMarked}
use Rattle.lower_parts.specs.Laying.{is_built, ForgetsLaid, HasPart, Underway}
use Rattle.lower_parts.specs.Scenes.{patterns_of, sides_of, first_side}
use Rattle.lower_parts.specs.Testing.{choice_at}
use Rattle.lower_parts.specs.Bodies.{BuiltWell, Waits, WaitsAt, LabelTakes, Asked, LaidIn, LaysIn, Lays, HasNeeds}
use Rattle.lower_parts.specs.Leaving.{CanLeave}
use Rattle.lower_parts.specs.Matches.{BeginsLaid, JoinsLaid, ClauseLays, ClausesLay, EndsMatchLaid, MeetsLaid}
use Rattle.lower_parts.proofs.Parted.{quiet_part}
use Rattle.lower_parts.proofs.Leaving.{has_marks}
use Rattle.lower_parts.proofs.Seeing.{start_seen}
use Rattle.lower_parts.proofs.Sided.{widened_again, front_part, back_part}
use Rattle.lower_parts.proofs.Sighting.{get_held}
use Rattle.lower_parts.proofs.Lessening.{Less, IsWide, less_on, less_reaching, built_less, built_later, wide_held, wide_itself, plain_wide, waits_less, solid_less, named_less, wide_on}
use Rattle.lower_parts.proofs.Shown.{some_there, under_reported, reports_takes, takes_same, takes_narrow, catches_by}
use Rattle.lower_parts.proofs.Begun.{Facts, Idle, Begun, begun, begun_return, begun_bares}
use Rattle.lower_parts.proofs.Trying.{all_caught_less}
use Rattle.lower_parts.proofs.Composing.{rising_less, sc, From, Before, IdleAt, ClauseOut, FirstLaid, ReturnOut, ReturnLaid, IntoOut, IntoLaid, OneInto, lays_out, first_laid, before_next, return_out, into_out, one_into, to_end, over_all, next_before, next_all, ends_laid}
use Rattle.fip_language.proofs.Facts.{same_some}

pub same_patterns : (cs : Clauses) → patterns_in cs ≡ clause_patterns cs
same_patterns NoClauses = refl
same_patterns (MoreClauses q b cs) = ap (λ x. q ∷ x) (same_patterns cs)

-- a match that was begun, in a function

module _ (s : Setting) (k : Known) (v : Written) (a : Argument) (g : Matching) (before : Known) (given_up : Written) (forgot : Known) (w : Written) (start : Begun s k v a g before given_up forgot w) (under : Underway s.types k v) where
  at_entry : Less forgot g.entry
  at_entry = subst (Less forgot) (sym start.entry) (less_reaching forgot g.entry.next start.more)

  pub built_entry : BuiltWell s.types (size v) k → BuiltWell s.types (size w) g.entry
  built_entry built = by (cases_eq (size w) (size v))
    where
      here : BuiltWell s.types (size v) g.entry
      here = built_less s.types (size v) forgot g.entry at_entry (built_less s.types (size v) before forgot start.forgets (built_less s.types (size v) k before start.less built))

      by : (size w ≡ size v) ⊎ (size w ≡ size v → ⊥) → BuiltWell s.types (size w) g.entry
      by (inl e) = subst (λ x. BuiltWell s.types x g.entry) (sym e) here
      by (inr e) = built_later s.types (size v) (size w) g.entry (let x = start.extends.grows in let y = start.long in omega (arith, x, y, e)) here

  module _ (c : PlainCode) (to : ℕ → ℕ) (f : PlainFunction) (types : c.types ≡ s.types) (many : f.registers ≡ registers k) (built : BuiltWell s.types (size v) k) (z : Written) (after : Extends w z) (has : HasPart (size v) z to f) (takes : LabelTakes c f (size w) g.entry) where
    abbrev choice : Choice
    choice = choice_at to (sc s false g forgot.next (registers k) start.facts)

    abbrev root : ℕ
    root = S.register (spot_of g.choice.root)

    same_reported : (r : ℕ) → reported c g.entry r ≡ reported c forgot r
    same_reported r = ap (λ (x : Known). reported c x r) start.entry

    takes_forgot : LabelTakes c f (size given_up) forgot
    takes_forgot map e = takes_same f.registers map (reported c g.entry) (reported c forgot) same_reported (takes map (ap (label_at f.labels) start.long ∙ e))

    built_before : BuiltWell s.types (size v) before
    built_before = built_less s.types (size v) k before start.less built

    right : (r : ℕ) → BuiltRight c.types (held_at before.held r)
    right r = subst (λ x. BuiltRight x (held_at before.held r)) (sym types) (built_before r).built

    not_built : (h : Held) (t d : ℕ) → is_built h ≡ false → h ≡ H.Owned t (Some d) → ⊥
    not_built h t d e x = true≢false (sym (ap is_built x) ∙ e)

    forgets : ForgetsLaid s.types root before given_up forgot start.reported → Forgets c f (size given_up) before root forgot
    forgets (inl e) = inl (e.0, λ t d x. not_built (held_at before.held root) t d (ap is_built (sym (get_held before.held root)) ∙ e.2) x)
    forgets (inr e) = by (cases_eq (size given_up) 0)
      where
        by : (size given_up ≡ 0) ⊎ (size given_up ≡ 0 → ⊥) → Forgets c f (size given_up) before root forgot
        by (inl zero_up) =
            let first : size v ≡ 0 = (let x = start.extends.grows in omega (arith, x, zero_up)) in
            inl (
              e.0 ∙ ap (λ xs. record before { held = xs }) (wide_itself before.held (λ r. plain_wide (held_at before.held r) ((built_before r).later first).0)),
              λ t d x. not_built (held_at before.held root) t d ((built_before root).later first).0 x,
            )
        by (inr later) = inr (e.0, catches_by c f (size given_up) forgot (has.labels e.2.label (size given_up) (after.placed e.2.label (size given_up) (start.reported_on.placed e.2.label (size given_up) e.2.placed)) (omega (arith, later))) takes_forgot)

    begins : MatchBegins c f (size given_up) before start.variable g.choice.ty choice g.entry
    begins = record {
      named = start.named;
      type = refl;
      known = forgot;
      forgets = forgets start.forgotten;
      built = right;
      next = g.entry.next;
      is = start.entry;
      more = start.more;
      few = let x = start.facts.room in omega (arith, x, many);
      fresh = λ y i. let x = start.facts.fresh y i in (x.0, x.1);
      differ = start.facts.is.differ;
      roomy = start.facts.is.roomy;
      typed = λ i q e. subst (λ x. IsPattern x g.choice.ty (row_of q)) (sym types) (start.facts.is.typed i q e);
    }

    pub match_laid : (d : Bool) (t : ℕ) (q : Pattern) (cs : Clauses) (mid more end : ℕ) → g.choice.ty ≡ t → g.choice.takes ≡ (d && not (is_scalar s t)) → patterns_of g.choice ≡ q ∷ patterns_in cs → ChunkLaid c f (held_at g.entry.held) choice (size w) (Open []) [] (reported c g.entry) mid → SidesLaid c f (wide_at (held_at g.entry.held)) choice more mid end → MatchLaid c s f (size given_up) before d t a q cs choice g.entry end
    match_laid d t q cs mid more end type took patterns first sides = record {
      variable = start.variable;
      is_variable = start.is;
      begins = subst (λ x. MatchBegins c f (size given_up) before start.variable x choice g.entry) type begins;
      takes = took;
      patterns = patterns ∙ ap (λ x. q ∷ x) (same_patterns cs);
      mid = mid;
      more = more;
      first = subst (λ x. ChunkLaid c f (held_at g.entry.held) choice x (Open []) [] (reported c g.entry) mid) start.long first;
      sides = sides;
    }

    -- a label at the start of the whole takes what is known there
    pub first_takes : size w < size z → LabelTakes c f (size v) k
    first_takes longer map e = by (cases_eq (size given_up) (size v))
      where
        right_k : (r : ℕ) → BuiltRight c.types (held_at k.held r)
        right_k r = subst (λ x. BuiltRight x (held_at k.held r)) (sym types) (built r).built

        here : size given_up ≡ size v → (forgot ≡ before) ⊎ (forgot ≡ wide before) → Takes f.registers map (reported c forgot) → Takes f.registers map (reported c k)
        here same (inl x) h = subst (λ (y : Known). Takes f.registers map (reported c y)) (x ∙ start.still same) h
        here same (inr x) h = takes_narrow f.registers c.types map (held_at forgot.held) (held_at k.held) right_k (λ r. ap widened (is r) ∙ widened_again (held_at k.held r)) (λ r. ap widened (is r) ∙ widened_again (held_at k.held r) ∙ sym (is r)) h
          where
            is : (r : ℕ) → held_at forgot.held r ≡ widened (held_at k.held r)
            is r = ap (λ (y : Known). held_at y.held r) x ∙ wide_held before.held r ∙ ap (λ (y : Known). widened (held_at y.held r)) (start.still same)

        which : ForgetsLaid s.types root before given_up forgot start.reported → (forgot ≡ before) ⊎ (forgot ≡ wide before)
        which (inl x) = inl x.0
        which (inr x) = inr x.0

        by : (size given_up ≡ size v) ⊎ (size given_up ≡ size v → ⊥) → Takes f.registers map (reported c k)
        by (inl same) = here same (which start.forgotten) (takes_forgot map (ap (label_at f.labels) same ∙ e))
        by (inr ne) =
            let lt : size v < size given_up = (let x = start.extends.grows in omega (arith, x, ne)) in
            let there : label_at v.maps (size v) ≡ Some map = sym (has.reported (size v) (omega arith) (let x = start.long in omega (arith, lt, x, longer)) ∙ (extends_on given_up w z start.onward after).reported (size v) lt ∙ ap (λ ms. label_at ms (size v)) start.maps) ∙ e in
            reports_takes f.registers map (reported c k) (subst (λ x. Reports x map (reported c k)) (sym many) (subst (λ x. Reports (registers k) map (kinds_of x (held_at k.held))) (sym types) (under.shown map there)))

-- the first clause

module _ (s : Setting) (fip : Bool) (g : Matching) (low n : ℕ) (facts : Facts s g low n) where
  pub first_before : (p : Progress) (k : Known) (v : Written) → sides_of p.sides.items ≡ first_side ∷ [] → p.clause ≡ 0 → k ≡ g.entry → Rising (size v) 0 v.maps → Before s fip g low n facts p.clause k v (sides_of p.sides.items)
  first_before p k v at_start none same rising = subst (Before s fip g low n facts p.clause k v) (sym at_start) (record {
    room = let x = facts.room in let y = ap (λ (y : Known). y.next) same in omega (arith, x, y);
    rising = rising;
    seen = (start_seen s.types g.choice.ty (spot_of g.choice.root), tt);
    ruled = ((λ j q lt e. absurd (let x : ⊥ = omega (arith, lt, none) in x)), tt);
    later = ((λ l. absurd l), tt);
  })

idle_at : (s : Setting) (fip : Bool) (k : Known) (g : Matching) (low n : ℕ) (facts : Facts s g low n) (target : Target) → ((d : ℕ) → Waits k d → Idle g low d) → WaitsAt target k → IdleAt s fip g low n facts target
idle_at s fip k g low n facts Return idle waits = tt
idle_at s fip k g low n facts (Into ds) idle waits = (waits.0, λ d i. idle d (waits.1 d i))

-- what the end of a clause may leave

can_leave : (s : Setting) (fip : Bool) (ns : List Need) (d : Bool) (t : ℕ) (p : Place) (a : Argument) (q : Pattern) (b : Block) (cs : Clauses) (rs : List ℕ) (g : Matching) (forgot : Known) → MarkedFor fip (Into rs) s forgot d a (record { pattern = q; body = b }) cs g.used.items → ((x : Need) → slice_get ns 0 ≡ Some x → g.need ≡ x.sizes) → HasNeeds s ns (Match d t p a q b cs) → Accounted forgot → g.entry ≡ reaching forgot g.entry.next → CanLeave s fip g.entry (Match d t p a q b cs) g.used.items g.need
can_leave s fip ns d t p a q b cs rs g forgot marked need needs accounts entry = record {
  marked = λ e. let m = (marks e).marked t p in subst (λ (y : Known). AreMarked s y (Match d t p a q b cs) g.used.items) (sym entry) (record { set = m.set; only = m.only });
  many = λ e. has_marks g.entry forgot g.used.items accounts (marks e).many (ap (λ (y : Known). y.held) entry);
  needed = λ e n low high. ap (λ xs. number xs n) (need needs.0.0 needs.0.1) ∙ needs.0.2 n low high;
}
  where
    marks : fip ≡ false → MatchMarked s forgot d a (record { pattern = q; body = b }) cs g.used.items
    marks e = subst (λ x. MarkedIf x s forgot d a (record { pattern = q; body = b }) cs g.used.items) e marked

joined_none : (known : Known) (o jl : Option Known) → o ≡ None → JoinsLaid o known jl → jl ≡ Some known
joined_none known None jl e h = h
joined_none known (Some x) jl e h = absurd (cc)

-- the whole, where its values are the function's

module _ (s : Setting) (fip : Bool) (ns : List Need) (k : Known) (v : Written) (d : Bool) (a : Argument) (t : ℕ) (p : Place) (q : Pattern) (b : Block) (cs : Clauses) (g : Matching) (w0 : Written) (p0 : Progress) (k0 : Known) (p1 : Progress) (k1 : Known) (w1 : Written) (p2 : Progress) (k2 : Known) (w2 : Written) (at_start : sides_of p0.sides.items ≡ first_side ∷ []) (none : p0.clause ≡ 0) (unjoined : p0.joined ≡ None) (entered : k0 ≡ g.entry) where
  abbrev whole : Expression
  whole = Match d t p a q b cs

  module _ (h : BeginsLaid s fip ns k v d a t (record { pattern = q; body = b }) cs Return g w0) (first : ClauseLays s fip g (record { pattern = q; body = b }) Return p0 k0 w0 p1 k1 w1) (others : ClausesLay s fip g cs Return p1 k1 w1 p2 k2 w2) (asked : Asked s ns whole) (under : Underway s.types k v) where
    start : Begun s k v a g h.before h.given_up h.forgot w0
    start = begun s fip ns k v d a t (record { pattern = q; body = b }) cs Return g w0 h asked.scalars under asked.founded.0 asked.matched.0 asked.matched.2

    zeroth : Before s fip g h.forgot.next (registers k) start.facts p0.clause k0 w0 (sides_of p0.sides.items)
    zeroth = first_before s fip g h.forgot.next (registers k) start.facts p0 k0 w0 at_start none entered start.rising

    there : slice_get (patterns_of g.choice) p0.clause ≡ Some q
    there = ap (slice_get (patterns_of g.choice)) none ∙ ap (λ x. slice_get x 0) h.patterns

    out : ClauseOut s fip g h.forgot.next (registers k) start.facts q b Return p0.clause k0 w0 (sides_of p0.sides.items) first.known first.begun first.last first.ended (sides_of p1.sides.items)
    out = lays_out s fip g h.forgot.next (registers k) start.facts q b Return p0 k0 w0 p1 k1 w1 first (size w0) there (inr (at_start, refl)) zeroth tt

    follow : patterns_in cs ≡ drop p1.clause (patterns_of g.choice)
    follow = sym (ap (λ i. drop i (patterns_of g.choice)) (first.next ∙ ap suc none) ∙ ap (drop 1) h.patterns)

    rest : ReturnOut s fip g h.forgot.next (registers k) start.facts cs p1 first.ended p2 k2 w2
    rest = return_out s fip g h.forgot.next (registers k) start.facts cs p1 k1 first.ended p2 k2 w2 (subst (λ x. ClausesLay s fip g cs Return p1 k1 x p2 k2 w2) first.ends.0 others) follow out.tests.labelled
        (λ le. first.starts.all (let e = first.next in omega (arith, le, e)))
        (before_next s fip g h.forgot.next (registers k) start.facts q b Return p0.clause k0 w0 (sides_of p0.sides.items) first.known first.begun first.last first.ended (sides_of p1.sides.items) out zeroth p1.clause k1 first.ended first.next
        (let x = first.room in let y = out.body.room in let m = out.enters.many in let e = start.facts.many in omega (arith, x, y, m, e)) (omega arith) (rising_less (size first.ended) 0 first.ended.maps out.body.onward))

    -- no clause reports what is known at its end
    pub none_joined : p2.joined ≡ None
    none_joined = rest.joined ∙ first.ends.1 ∙ unjoined

    to_ended : Extends w0 first.ended
    to_ended = extends_on w0 first.begun first.ended (extends_on w0 out.starts.chosen first.begun out.tests.extends out.starts.extends) out.body.extends

    to_start : Extends v w0
    to_start = extends_on v h.given_up w0 start.extends start.onward

    from_start : Extends w0 w2
    from_start = extends_on w0 first.ended w2 to_ended rest.extends

    longer : size w0 < size w2
    longer = let x = out.tests.extends.grows in let y = out.starts.as_long in let z = out.body.longer in let u = rest.extends.grows in omega (arith, x, y, z, u)

    nothing_before : (h.before ≡ k) × (size h.given_up ≡ size v)
    nothing_before = begun_return s fip ns k v d a t (record { pattern = q; body = b }) cs Return g w0 h asked.scalars under asked.founded.0 asked.matched.0 asked.matched.2 refl

    module _ (c : PlainCode) (to : ℕ → ℕ) (f : PlainFunction) (types : c.types ≡ s.types) (many : f.registers ≡ registers k) (has : HasPart (size v) w2 to f) (built : BuiltWell s.types (size v) k) where
      has_start : HasPart (size w0) w2 to f
      has_start = back_part to f v w0 w2 to_start has

      following : ReturnLaid s fip g h.forgot.next (registers k) start.facts c to f types many cs p1.clause first.ended w2 (sides_of p1.sides.items)
      following = rest.laid c to f types many w2 (same_extends w2) (back_part to f w0 first.ended w2 to_ended has_start) (size w0) (built_entry s k v a g h.before h.given_up h.forgot w0 start under built)
          (let x = to_ended.grows in let y = out.body.longer in let u = out.starts.as_long in let z = out.tests.extends.grows in omega (arith, y, u, z))

      first_out : FirstLaid s fip g h.forgot.next (registers k) start.facts c to f types many q b Return w0 first.known first.begun first.last first.ended
      first_out = first_laid s fip g h.forgot.next (registers k) start.facts c to f types many q b Return p0.clause k0 w0 (sides_of p0.sides.items) first.known first.begun first.last first.ended (sides_of p1.sides.items) out zeroth w2 rest.extends has_start
          at_start none start.shown (built_entry s k v a g h.before h.given_up h.forgot w0 start under built) following.caught (subst (λ i. From s fip g h.forgot.next (registers k) start.facts c to f types many i (size first.ended)) first.next following.from)

      laid : ExpressionLaid c s fip f (size v) k whole Return (size w2) k2
      laid = (
        choice_at to (sc s false g h.forgot.next (registers k) start.facts),
        g.entry,
        size first.begun,
        first.known.next,
        size first.ended,
        first.last,
        subst (λ x. MatchLaid c s f x k d t a q cs (choice_at to (sc s false g h.forgot.next (registers k) start.facts)) g.entry (size first.begun)) nothing_before.1
            (subst (λ x. MatchLaid c s f (size h.given_up) x d t a q cs (choice_at to (sc s false g h.forgot.next (registers k) start.facts)) g.entry (size first.begun)) nothing_before.0
            (match_laid s k v a g h.before h.given_up h.forgot w0 start under c to f types many built w2 from_start has first_out.takes d t q cs first_out.mid first_out.more (size first.begun) h.positions.type h.takes h.patterns first_out.first first_out.sides)),
        first_out.entry,
        first_out.body,
        subst (λ i. ClausesLaid c s fip f (choice_at to (sc s false g h.forgot.next (registers k) start.facts)) g.entry i cs (size first.ended) (size w2)) (first.next ∙ ap suc none) following.clauses,
      )

      in_return : LaidIn s k v Return k2 w2 (ExpressionLaid c s fip f (size v) k whole Return (size w2) k2) c f
      in_return = record { laid = laid; first = first_takes s k v a g h.before h.given_up h.forgot w0 start under c to f types many built w2 from_start has first_out.takes longer; built = tt }

    pub match_return : LaysIn s k v Return k2 w2 (λ c f. ExpressionLaid c s fip f (size v) k whole Return (size w2) k2)
    match_return = record {
      extends = extends_on v w0 w2 to_start from_start;
      longer = let x = to_start.grows in omega (arith, x, longer);
      room = rest.room;
      stay = tt;
      laid = λ c to f types many has built. in_return c to f types many has built;
      onward = rest.rising out.body.onward;
    }

  -- where its values go to registers
  module _ (rs : List ℕ) (l : Known) (w : Written) (h : BeginsLaid s fip ns k v d a t (record { pattern = q; body = b }) cs (Into rs) g w0) (first : ClauseLays s fip g (record { pattern = q; body = b }) (Into rs) p0 k0 w0 p1 k1 w1) (others : ClausesLay s fip g cs (Into rs) p1 k1 w1 p2 k2 w2) (ended : EndsMatchLaid s g p2.joined k2 w2 l w) (asked : Asked s ns whole) (under : Underway s.types k v) (waits : WaitsAt (Into rs) k) where
    begins_into : Begun s k v a g h.before h.given_up h.forgot w0
    begins_into = begun s fip ns k v d a t (record { pattern = q; body = b }) cs (Into rs) g w0 h asked.scalars under asked.founded.0 asked.matched.0 asked.matched.2

    abbrev begins_facts : Facts s g h.forgot.next (registers k)
    begins_facts = begins_into.facts

    can : CanLeave s fip g.entry whole g.used.items g.need
    can = can_leave s fip ns d t p a q b cs rs g h.forgot h.marked h.need asked.needs (begins_into.forgets.accounts (begins_into.less.accounts under.accounts)) h.entry

    idle : IdleAt s fip g h.forgot.next (registers k) begins_facts (Into rs)
    idle = idle_at s fip k g h.forgot.next (registers k) begins_facts (Into rs) begins_into.idle waits

    before_first : Before s fip g h.forgot.next (registers k) begins_facts p0.clause k0 w0 (sides_of p0.sides.items)
    before_first = first_before s fip g h.forgot.next (registers k) begins_facts p0 k0 w0 at_start none entered begins_into.rising

    one : OneInto s fip g h.forgot.next (registers k) begins_facts whole rs q b p0 k0 w0 first.known first.begun first.last first.ended p1 k1 w1
    one = one_into s fip g h.forgot.next (registers k) begins_facts whole rs can q b p0 k0 w0 p1 k1 w1 first (size w0) (ap (slice_get (patterns_of g.choice)) none ∙ ap (λ x. slice_get x 0) h.patterns) (inr (at_start, refl)) before_first idle

    others_follow : patterns_in cs ≡ drop p1.clause (patterns_of g.choice)
    others_follow = sym (ap (λ i. drop i (patterns_of g.choice)) (one.next ∙ ap suc none) ∙ ap (drop 1) h.patterns)

    joins : IntoOut s fip g h.forgot.next (registers k) begins_facts whole rs cs p1 w1 one.gone p2 k2 w2
    joins = into_out s fip g h.forgot.next (registers k) begins_facts whole rs can idle cs p1 k1 w1 one.gone p2 k2 w2 others (joined_none one.gone p0.joined p1.joined unjoined one.joins) others_follow one.out.tests.labelled
        (next_all s fip g h.forgot.next (registers k) begins_facts whole rs q b p0 k0 w0 first.known first.begun first.last first.ended p1 k1 w1 one before_first)
        (next_before s fip g h.forgot.next (registers k) begins_facts whole rs q b p0 k0 w0 first.known first.begun first.last first.ended p1 k1 w1 one before_first)

    meets : MeetsLaid s g joins.met k2 w2 l w
    meets = subst (λ o. EndsMatchLaid s g o k2 w2 l w) joins.is ended

    -- what is known after it

    wide_met : IsWide joins.met
    wide_met = wide_on one.gone joins.met joins.less one.end.wide

    known_after : l ≡ reaching joins.met l.next
    known_after = meets.known ∙ ap (λ xs. record (reaching joins.met l.next) { held = xs }) (wide_itself joins.met.held wide_met)

    more_after : joins.met.next ≤ l.next
    more_after = let x = meets.next in omega (arith, x)

    less_after : Less first.last l
    less_after = less_on first.last one.gone l one.end.less (less_on one.gone joins.met l joins.less (subst (Less joins.met) (sym known_after) (less_reaching joins.met l.next more_after)))

    wide_after : IsWide l
    wide_after = subst IsWide (sym known_after) wide_met

    many_after : registers l ≡ registers k
    many_after = less_after.many ∙ one.out.body.stay ∙ one.out.enters.many ∙ begins_facts.many

    room_after : l.next ≤ registers k
    room_after = let x = meets.next in let y = joins.room in let z = joins.next in let u = one.end.next in let r = one.out.body.room in let m = one.out.enters.many in let e = begins_facts.many in omega (arith, x, y, z, u, r, m, e)

    accounts_after : Accounted l
    accounts_after = less_after.accounts one.out.body.onward.0.accounts

    under_after : Underway s.types l w
    under_after = under_reported s.types l w2 w wide_after accounts_after (named_less first.last l less_after one.out.body.onward.0.named) (omega (arith, room_after, many_after)) meets.maps meets.as_long joins.rising

    still_after : (x : ℕ) → Waits k x → (Among x rs → ⊥) → Waits l x
    still_after x wait apart = let i = begins_into.idle x wait in waits_less first.last l x less_after accounts_after (one.out.body.onward.2 x (one.out.enters.waits x i.waits i.below i.apart) apart)

    -- what is written

    to_first : Extends v w0
    to_first = extends_on v h.given_up w0 begins_into.extends begins_into.onward

    stop_on : Extends first.ended w1
    stop_on = to_end s fip g h.forgot.next (registers k) begins_facts whole rs q b p0 k0 w0 first.known first.begun first.last first.ended p1 k1 w1 one before_first

    first_on : Extends w0 w1
    first_on = over_all s fip g h.forgot.next (registers k) begins_facts whole rs q b p0 k0 w0 first.known first.begun first.last first.ended p1 k1 w1 one before_first

    others_on : Extends w1 w
    others_on = extends_on w1 w2 w joins.extends meets.extends

    written_on : Extends w0 w
    written_on = extends_on w0 w1 w first_on others_on

    first_longer : size w0 < size first.ended
    first_longer = let x = one.out.tests.extends.grows in let y = one.out.starts.as_long in let z = one.out.body.longer in omega (arith, x, y, z)

    whole_longer : size w0 < size w
    whole_longer = let x = stop_on.grows in let y = others_on.grows in omega (arith, first_longer, x, y)

    -- in a function
    module _ (c : PlainCode) (to : ℕ → ℕ) (f : PlainFunction) (types : c.types ≡ s.types) (many : f.registers ≡ registers k) (has : HasPart (size v) w to f) (built : BuiltWell s.types (size v) k) where
      has_first : HasPart (size w0) w to f
      has_first = back_part to f v w0 w to_first has

      built_first : BuiltWell s.types (size w0) g.entry
      built_first = built_entry s k v a g h.before h.given_up h.forgot w0 begins_into under built

      at_end : to g.end ≡ size w2
      at_end = has.code.at g.end (size w2) meets.placed

      end_later : 0 < size w2
      end_later = let x = stop_on.grows in let y = joins.extends.grows in omega (arith, first_longer, x, y)

      rest_laid : IntoLaid s fip g h.forgot.next (registers k) begins_facts c to f types many whole rs cs p1.clause w1 w2 (sides_of p1.sides.items) one.gone joins.met
      rest_laid = joins.laid c to f types many w meets.extends (back_part to f w0 w1 w first_on has_first) at_end (size w0) built_first (let x = stop_on.grows in omega (arith, first_longer, x))

      one_laid : FirstLaid s fip g h.forgot.next (registers k) begins_facts c to f types many q b (Into rs) w0 first.known first.begun first.last first.ended
      one_laid = first_laid s fip g h.forgot.next (registers k) begins_facts c to f types many q b (Into rs) p0.clause k0 w0 (sides_of p0.sides.items) first.known first.begun first.last first.ended (sides_of p1.sides.items) one.out before_first w (extends_on first.ended w1 w stop_on others_on) has_first
          at_start none begins_into.shown built_first
          (all_caught_less c f g.entry.held (choice_at to (sc s fip g h.forgot.next (registers k) begins_facts)) to (size first.ended) (size w1) stop_on.grows (sides_of p1.sides.items) rest_laid.caught)
          (λ j label le e. let y = subst (λ i. From s fip g h.forgot.next (registers k) begins_facts c to f types many i (size w1)) one.next rest_laid.from j label le e in let up = stop_on.grows in omega (arith, y, up))

      end_laid : ClauseEnds c s fip f g.entry whole rs cs (size first.ended) first.last (size w2) (size w1) one.gone
      end_laid = ends_laid s fip g h.forgot.next (registers k) begins_facts whole rs q b p0 k0 w0 first.known first.begun first.last first.ended p1 k1 w1 one before_first cs (size w2) others_follow c to f types many w others_on has_first at_end joins.ends one_laid.built

      meet_laid : Meets f joins.met (size w2) l
      meet_laid = let x = some_there (label_at f.labels (size w2)) (has.labels g.end (size w2) meets.placed end_later) in record { next = l.next; more = more_after; known = known_after; map = x.0; label = x.1 }

      laid_into : ExpressionLaid c s fip f (size v) k whole (Into rs) (size w2) l
      laid_into = (
        size h.given_up,
        h.before,
        choice_at to (sc s false g h.forgot.next (registers k) begins_facts),
        g.entry,
        size first.begun,
        first.known.next,
        size first.ended,
        first.last,
        size w1,
        one.gone,
        joins.met,
        begun_bares s fip ns k v d a t (record { pattern = q; body = b }) cs (Into rs) g w0 h asked.scalars under asked.founded.0 asked.matched.0 asked.matched.2 rs refl c to f (front (size v) h.given_up w to f.instrs (extends_on h.given_up w0 w begins_into.onward written_on) has.code),
        quiet_part s.types k v h.given_up begins_into.maps under c to f types many (front_part to f v h.given_up w (extends_on h.given_up w0 w begins_into.onward written_on) has),
        match_laid s k v a g h.before h.given_up h.forgot w0 begins_into under c to f types many built w written_on has one_laid.takes d t q cs one_laid.mid one_laid.more (size first.begun) h.positions.type h.takes h.patterns one_laid.first one_laid.sides,
        one_laid.entry,
        one_laid.body,
        end_laid,
        subst (λ i. ClausesMeet c s fip f (choice_at to (sc s false g h.forgot.next (registers k) begins_facts)) g.entry whole i cs rs (size w2) one.gone (size w1) joins.met) (one.next ∙ ap suc none) rest_laid.clauses,
        meet_laid,
      )

      in_into : LaidIn s k v (Into rs) l w (ExpressionLaid c s fip f (size v) k whole (Into rs) (size w) l) c f
      in_into = record {
        laid = subst (λ x. ExpressionLaid c s fip f (size v) k whole (Into rs) x l) (sym meets.as_long) laid_into;
        first = first_takes s k v a g h.before h.given_up h.forgot w0 begins_into under c to f types many built w written_on has one_laid.takes whole_longer;
        built = built_later s.types (size first.ended) (size w) l (omega (arith, whole_longer)) (built_less s.types (size first.ended) first.last l less_after one_laid.built);
      }

    pub match_into : LaysIn s k v (Into rs) l w (λ c f. ExpressionLaid c s fip f (size v) k whole (Into rs) (size w) l)
    match_into = record {
      extends = extends_on v w0 w to_first written_on;
      longer = let x = to_first.grows in omega (arith, x, whole_longer);
      room = room_after;
      stay = many_after;
      laid = λ c to f types many has built. in_into c to f types many has built;
      onward = (under_after, solid_less first.last l rs less_after one.out.body.onward.1, still_after);
    }

-- a match, from what its parts have laid out

return_ends : (s : Setting) (g : Matching) (j : Option Known) (k : Known) (v : Written) (l : Known) (w : Written) → EndsMatchLaid s g j k v l w → j ≡ None → (l ≡ k) × (w ≡ v)
return_ends s g None k v l w h e = h
return_ends s g (Some x) k v l w h e = absurd (cc)

pub lays_match : (s : Setting) (fip : Bool) (ns : List Need) (k : Known) (v : Written) (d : Bool) (a : Argument) (t : ℕ) (p : Place) (c : Case) (cs : Clauses) (target : Target) (g : Matching) (w0 : Written) (p0 : Progress) (k0 : Known) (p1 : Progress) (k1 : Known) (w1 : Written) (p2 : Progress) (k2 : Known) (w2 : Written) (l : Known) (w : Written) → sides_of p0.sides.items ≡ first_side ∷ [] → p0.clause ≡ 0 → p0.joined ≡ None → k0 ≡ g.entry → BeginsLaid s fip ns k v d a t c cs target g w0 → ClauseLays s fip g c target p0 k0 w0 p1 k1 w1 → ClausesLay s fip g cs target p1 k1 w1 p2 k2 w2 → EndsMatchLaid s g p2.joined k2 w2 l w → Asked s ns (Match d t p a c.pattern c.body cs) → Lays s fip k v (Match d t p a c.pattern c.body cs) target l w
lays_match s fip ns k v d a t p c cs Return g w0 p0 k0 p1 k1 w1 p2 k2 w2 l w at_start none unjoined entered h first others ended asked = record {
  by = λ under waits.
      let same = return_ends s g p2.joined k2 w2 l w ended (none_joined s fip ns k v d a t p c.pattern c.body cs g w0 p0 k0 p1 k1 w1 p2 k2 w2 at_start none unjoined entered h first others asked under) in
      subst (λ x. LaysIn s k v Return x w (λ c' f. ExpressionLaid c' s fip f (size v) k (Match d t p a c.pattern c.body cs) Return (size w) x)) (sym same.0)
      (subst (λ x. LaysIn s k v Return k2 x (λ c' f. ExpressionLaid c' s fip f (size v) k (Match d t p a c.pattern c.body cs) Return (size x) k2)) (sym same.1)
      (match_return s fip ns k v d a t p c.pattern c.body cs g w0 p0 k0 p1 k1 w1 p2 k2 w2 at_start none unjoined entered h first others asked under));
}
lays_match s fip ns k v d a t p c cs (Into rs) g w0 p0 k0 p1 k1 w1 p2 k2 w2 l w at_start none unjoined entered h first others ended asked = record {
  by = λ under waits. match_into s fip ns k v d a t p c.pattern c.body cs g w0 p0 k0 p1 k1 w1 p2 k2 w2 at_start none unjoined entered rs l w h first others ended asked under waits;
}
