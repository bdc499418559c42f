-- Matches: from what the parts of the lowering of a match have written, the whole.
use Rattle.std.proofs.Common.{◌≡◌, ◌⊎◌, inl, inr, refl, sym, ap, ◌∙◌, subst, ⊎_elim, arith, ℕ, zero, suc, ◌+◌, ◌<◌, ◌≤◌, Bool, true, false, List, [], ◌∷◌, length, map, Option, Some, None, slice_get, get_or}
use Rattle.fip_language.specs.declared.Place.{Place}
use Rattle.fip_language.specs.Every.{Every, Among}
use Rattle.fip_language.specs.Matching.{Binding}
use Rattle.fip_language.specs.Table.{Table}
use Rattle.fip_trees.specs.Tree.{Pattern, Argument, Block, Clauses, NoClauses, MoreClauses, Match}
use Rattle.code_size.specs.instance_semantics.Matching.{matching}
use Rattle.cell_code.specs.declared.code.Instr.{Instr}
use Rattle.cell_code.specs.declared.code.Instr.TheVariants as I
use Rattle.lower_frame.specs.tree_semantics.Contents.{Contents}
use Rattle.match_knowledge.specs.declared.rows.Row.{Row}
use Rattle.match_knowledge.specs.Patterns.{IsPattern}
use Rattle.match_knowledge.specs.View.{rows}
use Rattle.match_knowledge.specs.Known.{Open}
use Rattle.lower_frame.specs.lowering_relation.Known.{Known}
use Rattle.lower_frame.specs.lowering_relation.Values.{Setting, Stands}
use Rattle.lower_frame.specs.lowering_relation.Choosing.{place, Entry, Arrives, IsChoice, Opens, Meets, MeetsFirst, Reaches}
use Rattle.lower_frame.specs.lowering_relation.LoweredBodies as B
use Rattle.lower_frame.proofs.lowering_relation.LoweredLists.{fewer_on, barer_on}
use Rattle.lower_frame.specs.lowering_relation.Written.{Written, size, Extends, HasFrom, IsAt}
use Rattle.lower_frame.specs.lowering_relation.Spots as S
use Rattle.lower_frame.specs.lowering_relation.Rows.{row_of, patterns_in}
use Rattle.lower_frame.specs.lowering_relation.Landing.{Scene, IsScene, Good, AllGood, Lands, LeadsTo}
use Rattle.lower_frame.specs.lowering_relation.Entering.{entering_root}
use Rattle.lower_frame.specs.lowering_relation.Losing.{Loses, Resumes}
use Rattle.lower_frame.specs.lowering_relation.WellMatched.{WellMatchedClauses}
use Rattle.lower_frame.proofs.lowering_relation.Placing.{same_extends, extends_on, added_extends, front, back, stands, up_to, given_up}
use Rattle.lower_frame.proofs.lowering_relation.Running.{reaches_same}
use Rattle.lower_frame.proofs.lowering_relation.Choices.{is_choice}
use Rattle.lower_frame.proofs.lowering_relation.Arriving.{opens_entry, arrives_entry}
use Rattle.lower_parts.specs.declared.match_state.Matching.{Matching}
use Rattle.lower_parts.specs.declared.match_state.Progress.{Progress}
use Rattle.lower_frame.specs.Positions.{spot_of}
use Rattle.lower_parts.specs.Scenes.{scene, patterns_of, HasRows, sides_of, first_side, Labelled, Ready, ChoosesIn}
use Rattle.lower_parts.specs.Clauses.{Begins, GoesToEnd, JoinsBefore, EndsInto, EndsIn, EndsMatch, ClauseIn, ClausesIn}
use Rattle.lower_parts.specs.Writing.{Writes}
use Rattle.lower_parts.proofs.Bounding.{match_few, match_stays}
use Rattle.lower_frame.proofs.lowering_relation.Arriving.{resumes_lost as lost_resumes}

-- what is known stays

resumes_on : (k l m : Known) → Resumes k l → Resumes l m → Resumes k m
resumes_on k l m a b = record {
  names = b.names ∙ a.names;
  grows = let p = a.grows in let q = b.grows in omega (arith, p, q);
  credits = fewer_on k.credits l.credits m.credits a.credits b.credits;
  barer = barer_on k.held l.held m.held a.barer b.barer;
}

meets_resumed : (k l : Known) → Resumes k l → Meets k l
meets_resumed k l h = record { names = λ x r e. ap (λ ns. Rattle.lower_frame.specs.lowering_relation.Known.register_of ns (Some x)) (sym h.names) ∙ e; barer = h.barer }

first_resumed : (k l : Known) → Resumes k l → MeetsFirst k l
first_resumed k l h = record { credits = h.credits; grows = h.grows }

pub resumes_then : (k l m : Known) → Resumes k l → Loses l m → Resumes k m
resumes_then k l m a b = resumes_on k l m a (lost_resumes l m b)

meets_on : (k l m : Known) → Meets k l → Meets l m → Meets k m
meets_on k l m a b = record { names = λ x r e. a.names x r (b.names x r e); barer = λ r t c e. a.barer r t c (b.barer r t c e) }

first_on : (k l m : Known) → MeetsFirst k l → MeetsFirst l m → MeetsFirst k m
first_on k l m a b = record {
  credits = fewer_on k.credits l.credits m.credits a.credits b.credits;
  grows = let p = a.grows in let q = b.grows in omega (arith, p, q);
}

-- patterns of the match's type

pub typed_in : (tb : Table) (t : ℕ) (cs : Clauses) → WellMatchedClauses tb t cs → (i : ℕ) (q : Pattern) → slice_get (patterns_in cs) i ≡ Some q → IsPattern tb t (row_of q)
typed_in tb t NoClauses w i q e = absurd (cc)
typed_in tb t (MoreClauses p b cs) w zero q e = subst (λ z. IsPattern tb t (row_of z)) (same_some p q e) w.0
  where
    same_some : (x y : Pattern) → Some x ≡ Some y → x ≡ y
    same_some x y h = cc
typed_in tb t (MoreClauses p b cs) w (suc i) q e = typed_in tb t cs w.2 i q e

abbrev pub count : Clauses → ℕ
count NoClauses = 0
count (MoreClauses q b cs) = suc (count cs)

pub counted : (cs : Clauses) → length (patterns_in cs) ≡ count cs
counted NoClauses = refl
counted (MoreClauses q b cs) = ap suc (counted cs)

-- what is known of a match that was begun: in register r is the scrutinee, and m was known before
pub record Facts (s : Setting) (g : Matching) (m : Known) (r : ℕ) : Type 0 where
  pub is : IsScene (scene s.types m.next g.choice)
  pub has : HasRows g.choice
  pub root : S.register (spot_of g.choice.root) ≡ r
  pub resumes : Resumes m g.entry
  pub fresh : (z : ℕ) → Among z (S.below (spot_of g.choice.root)) → (m.next ≤ z) × (z < g.entry.next)

module _ (s : Setting) (g : Matching) (m : Known) (r : ℕ) (facts : Facts s g m r) where
  abbrev sc : Scene
  sc = scene s.types m.next g.choice

  -- the body of a clause with pattern q begins here
  pub record EntryIs (to : ℕ → ℕ) (i : ℕ) (q : Pattern) (e : Entry) : Type 0 where
    pub at : to (get_or g.choice.entries.items i 0) ≡ e.at
    pub opened : Known
    pub resumes : Resumes g.entry opened
    pub opens : Loses (entering_root s g.choice.takes q (spot_of g.choice.root) opened) e.known

  abbrev pub EntriesAre : (ℕ → ℕ) → ℕ → Clauses → List Entry → Type 0
  EntriesAre to i NoClauses es = Unit {0}
  EntriesAre to i (MoreClauses q b cs) [] = ⊥
  EntriesAre to i (MoreClauses q b cs) (e ∷ es) = EntryIs to i q e × EntriesAre to (suc i) cs es

  -- where clauses meet, this is known
  abbrev pub After : B.Target → Option Known → Known → Type 0
  After B.Return j after = Unit {0}
  After (B.Into ds) None after = Unit {0}
  After (B.Into ds) (Some k) after = Meets k after × MeetsFirst k after

  abbrev pub EndIs : B.Target → (ℕ → ℕ) → ℕ → Type 0
  EndIs B.Return to end = Unit {0}
  EndIs (B.Into ds) to end = to g.end ≡ end

  abbrev pub Body : List Instr → Block → B.Target → ℕ → Known → ℕ → Known → Type 0
  Body code b target = λ i n last o. B.BlockAt s code i n b target last o

  pub record ClauseOut (start : ℕ) (q : Pattern) (b : Block) (target : B.Target) (p : Progress) (v : Written) (o : Progress) (u : Written) : Type 0 where
    pub extends : Extends v u
    pub labelled : Every Labelled (sides_of o.sides.items)
    pub next : o.clause ≡ suc p.clause
    pub all : length g.choice.rows.items ≤ suc p.clause → sides_of o.sides.items ≡ []
    pub tests : (to : ℕ → ℕ) (code : List Instr) → HasFrom (size v) u to code → AllGood sc to code start (sides_of o.sides.items) → AllGood sc to code start (sides_of p.sides.items)
    pub entry : Entry
    pub enters : (to : ℕ → ℕ) (code : List Instr) → HasFrom (size v) u to code → EntryIs to p.clause q entry
    pub body : (to : ℕ → ℕ) (code : List Instr) → HasFrom (size v) u to code → (first : Bool) (end : ℕ) (after : Known) → (first ≡ true → p.joined ≡ None) → EndIs target to end → (length g.choice.rows.items ≤ suc p.clause → size u ≡ end) → After target o.joined after → B.ClauseAt (Body code b target) code m r entry first target end after × After target p.joined after

  apart : Among (S.register (spot_of g.choice.root)) (S.below (spot_of g.choice.root)) → ⊥
  apart x = let le = facts.is.fresh (S.register (spot_of g.choice.root)) x in let lt = facts.is.used in absurd (omega (arith, le, lt))

  opens_so : (q : Pattern) (k l : Known) → Resumes g.entry k → Loses (entering_root s g.choice.takes q (spot_of g.choice.root) k) l → Opens m r l
  opens_so q k l a b =
      subst (λ z. Opens m z l) facts.root
      (opens_entry s g.choice.takes q (spot_of g.choice.root) m k l (resumes_on m g.entry k facts.resumes a) b facts.is.differ apart
      (λ z x. let f = facts.fresh z x in let lt = f.1 in let le = a.grows in (f.0, omega (arith, lt, le))))

  -- the end of a clause

  goes_end : (n : ℕ) (left u : Written) (to : ℕ → ℕ) (code : List Instr) (a end : ℕ) → a ≤ size left → HasFrom a u to code → GoesToEnd g n left u → to g.end ≡ end → (length g.choice.rows.items ≤ n → size u ≡ end) → Stands code (size left) (I.Jump end) ⊎ (end ≡ size left)
  goes_end n left u to code a end le h (inl e) f last =
      inl (stands left (I.Jump g.end) a to code le (subst (λ z. HasFrom a z to code) e h) ∙ ap (λ z. Some (I.Jump z)) f)
  goes_end n left u to code a end le h (inr e) f last = inr (sym (last e.0) ∙ ap size e.1)

  left_extends : (n : ℕ) (left u : Written) → GoesToEnd g n left u → Extends left u
  left_extends n left u (inl e) = subst (Extends left) (sym e) (added_extends left (I.Jump g.end))
  left_extends n left u (inr e) = subst (Extends left) (sym e.1) (same_extends left)

  after_before : (ds : List ℕ) (j : Option Known) (k joined after : Known) → JoinsBefore j k joined → Meets joined after → MeetsFirst joined after → After (B.Into ds) j after
  after_before ds None k joined after h a b = tt
  after_before ds (Some l) k joined after h a b = (meets_on l joined after h.0 a, first_on l joined after h.1 b)

  first_before : (j : Option Known) (k joined : Known) → j ≡ None → JoinsBefore j k joined → MeetsFirst k joined
  first_before None k joined e h = h
  first_before (Some l) k joined e h = absurd (cc)

  joins_into : (ds : List ℕ) (n : ℕ) (k : Known) (v : Written) (j : Option Known) (u : Written) (jl : Option Known) → EndsInto g n k v j u jl → (to : ℕ → ℕ) (code : List Instr) (a : ℕ) → a ≤ size v → HasFrom a u to code → (first : Bool) (end : ℕ) (after : Known) → (first ≡ true → j ≡ None) → to g.end ≡ end → (length g.choice.rows.items ≤ n → size u ≡ end) → After (B.Into ds) jl after → B.IsJoin code first (size v) k end after × After (B.Into ds) j after
  joins_into ds n k v j u jl e to code a le h first end after fst f last joined = (
    record {
      given_up = number.0;
      give_up = given_up v e.left u a number.0 to code e.gives_up (left_extends n e.left u e.goes) h le number.1;
      goes = ⊎_elim (λ x. inl (ap (slice_get code) number.1 ∙ x)) (λ x. inr (x ∙ sym number.1)) (goes_end n e.left u to code a end (let g' = e.gives_up.extends.grows in omega (arith, le, g')) h e.goes f last);
      meets = meets_on k e.known after (meets_resumed k e.known (lost_resumes k e.known e.loses)) (meets_on e.known e.joins.joined after e.joins.meets both.0);
      of_first = λ x. first_on k e.known after (first_resumed k e.known (lost_resumes k e.known e.loses)) (first_on e.known e.joins.joined after (first_before j e.known e.joins.joined (fst x) e.joins.before) both.1);
    },
    after_before ds j e.known e.joins.joined after e.joins.before both.0 both.1,
  )
    where
      number : (n : ℕ) × (size v + n ≡ size e.left)
      number = up_to (size v) (size e.left) e.gives_up.extends.grows

      both : Meets e.joins.joined after × MeetsFirst e.joins.joined after
      both = subst (λ z. After (B.Into ds) z after) e.joins.is joined

  ends_extends : (target : B.Target) (n : ℕ) (k : Known) (v : Written) (j : Option Known) (u : Written) (jl : Option Known) → EndsIn g target n k v j u jl → Extends v u
  ends_extends B.Return n k v j u jl e = subst (Extends v) (sym e.0) (same_extends v)
  ends_extends (B.Into ds) n k v j u jl e = extends_on v e.left u e.gives_up.extends (left_extends n e.left u e.goes)

  joins : (target : B.Target) (n : ℕ) (k : Known) (v : Written) (j : Option Known) (u : Written) (jl : Option Known) → EndsIn g target n k v j u jl → (to : ℕ → ℕ) (code : List Instr) (a : ℕ) → a ≤ size v → HasFrom a u to code → (first : Bool) (end : ℕ) (after : Known) → (first ≡ true → j ≡ None) → EndIs target to end → (length g.choice.rows.items ≤ n → size u ≡ end) → After target jl after → B.Joins code first target (size v) k end after × After target j after
  joins B.Return n k v j u jl e to code a le h first end after fst f last joined = (tt, tt)
  joins (B.Into ds) n k v j u jl e to code a le h first end after fst f last joined = joins_into ds n k v j u jl e to code a le h first end after fst f last joined

  -- a clause

  pub clause_out : (start : ℕ) (q : Pattern) (b : Block) (target : B.Target) (p : Progress) (v : Written) (o : Progress) (u : Written) → Ready start v (sides_of p.sides.items) → ClauseIn s g (record { pattern = q; body = b }) target p v o u → ClauseOut start q b target p v o u
  clause_out start q b target p v o u ready c = record {
    extends = extends_on v c.begun u to_begun begun_on;
    labelled = tests.labelled;
    next = c.next;
    all = c.starts.all;
    tests = λ to code h good. tests.by to code (front (size v) chosen u to code chosen_on h) (leads to code h) good;
    entry = record { at = size c.begun; known = c.known };
    enters = λ to code h. record { at = placed to code h; opened = c.starts.opened; resumes = c.starts.resumes; opens = c.starts.opens };
    body = λ to code h first end after fst e last joined.
        let j = joins target o.clause c.last c.ended p.joined u o.joined c.ends to code (size v) (let x = to_ended.grows in x) h first end after fst e (λ le. last (subst (λ z. length g.choice.rows.items ≤ z) c.next le)) joined in (
          (
            size c.ended,
            c.last,
            opens_so q c.starts.opened c.known c.starts.resumes c.starts.opens,
            c.body.code to code (back (size v) (size c.begun) c.ended to code to_begun.grows (front (size v) c.ended u to code ended_on h)),
            j.0,
          ),
          j.1,
        );
  }
    where
      chosen : Written
      chosen = c.starts.chosen

      tests : ChoosesIn sc start p.clause v (sides_of p.sides.items) chosen (sides_of o.sides.items) true
      tests = c.starts.chooses.by m.next start facts.is facts.has ready

      to_begun : Extends v c.begun
      to_begun = extends_on v chosen c.begun tests.extends c.starts.extends

      ended_on : Extends c.ended u
      ended_on = ends_extends target o.clause c.last c.ended p.joined u o.joined c.ends

      begun_on : Extends c.begun u
      begun_on = extends_on c.begun c.ended u c.body.extends ended_on

      chosen_on : Extends chosen u
      chosen_on = extends_on chosen c.begun u c.starts.extends begun_on

      to_ended : Extends v c.ended
      to_ended = extends_on v c.begun c.ended to_begun c.body.extends

      placed : (to : ℕ → ℕ) (code : List Instr) → HasFrom (size v) u to code → to (get_or g.choice.entries.items p.clause 0) ≡ size c.begun
      placed to code h = h.at (get_or g.choice.entries.items p.clause 0) (size c.begun) (begun_on.placed (get_or g.choice.entries.items p.clause 0) (size c.begun) c.starts.placed)

      leads : (to : ℕ → ℕ) (code : List Instr) → HasFrom (size v) u to code → LeadsTo sc to code (size chosen) p.clause
      leads to code h ds = subst (λ z. Reaches code (place (size chosen) ds) (place z ds)) (sym c.starts.as_long ∙ sym (placed to code h)) (reaches_same code (place (size chosen) ds))

  -- clauses

  pub record ClausesOut (start : ℕ) (cs : Clauses) (target : B.Target) (p : Progress) (v : Written) (o : Progress) (w : Written) : Type 0 where
    pub extends : Extends v w
    pub all : p.clause + count cs ≡ length g.choice.rows.items → (count cs ≡ 0 → sides_of p.sides.items ≡ []) → sides_of o.sides.items ≡ []
    pub tests : (to : ℕ → ℕ) (code : List Instr) → HasFrom (size v) w to code → AllGood sc to code start (sides_of o.sides.items) → AllGood sc to code start (sides_of p.sides.items)
    pub entries : List Entry
    pub enter : (to : ℕ → ℕ) (code : List Instr) → HasFrom (size v) w to code → EntriesAre to p.clause cs entries
    pub bodies : (to : ℕ → ℕ) (code : List Instr) → HasFrom (size v) w to code → (end : ℕ) (after : Known) → p.clause + count cs ≡ length g.choice.rows.items → EndIs target to end → size w ≡ end → After target o.joined after → B.ClausesAt s code m r cs entries target end after × After target p.joined after
    pub some : (k : Known) → p.joined ≡ Some k → (l : Known) × (o.joined ≡ Some l)
    pub only : count cs ≡ 0 → size w ≡ size v

  out_none : (start : ℕ) (target : B.Target) (p : Progress) (v : Written) → ClausesOut start NoClauses target p v p v
  out_none start target p v = record {
    extends = same_extends v;
    all = λ e f. f refl;
    tests = λ to code h good. good;
    entries = [];
    enter = λ to code h. tt;
    bodies = λ to code h end after e f last joined. (tt, joined);
    some = λ k e. (k, e);
    only = λ e. refl;
  }

  join_some : (target : B.Target) (n : ℕ) (k : Known) (v : Written) (j : Option Known) (u : Written) (jl : Option Known) → EndsIn g target n k v j u jl → (l : Known) → j ≡ Some l → (l' : Known) × (jl ≡ Some l')
  join_some B.Return n k v j u jl e l f = (l, e.1 ∙ f)
  join_some (B.Into ds) n k v j u jl e l f = (e.joins.joined, e.joins.is)

  zero_left : (i j n : ℕ) → i + suc j ≡ n → n ≤ suc i → j ≡ 0
  zero_left i j n e le = omega (arith, e, le)

  one_more : (i i' j n : ℕ) → i' ≡ suc i → i + suc j ≡ n → i' + j ≡ n
  one_more i i' j n a b = omega (arith, a, b)

  at_least : (i j n : ℕ) → j ≡ 0 → i + suc j ≡ n → n ≤ suc i
  at_least i j n a b = omega (arith, a, b)

  out_more : (start : ℕ) (q : Pattern) (b : Block) (cs : Clauses) (target : B.Target) (p : Progress) (v : Written) (o : Progress) (u : Written) (f : Progress) (w : Written) → ((k : Known) → p.joined ≡ Some k → (l : Known) × (o.joined ≡ Some l)) → ClauseOut start q b target p v o u → ClausesOut start cs target o u f w → ClausesOut start (MoreClauses q b cs) target p v f w
  out_more start q b cs target p v o u f w joins' c rest = record {
    extends = extends_on v u w c.extends rest.extends;
    all = λ e g'. rest.all (one_more p.clause o.clause (count cs) (length g.choice.rows.items) c.next e) (λ none. c.all (at_least p.clause (count cs) (length g.choice.rows.items) none e));
    tests = λ to code h good. c.tests to code (front (size v) u w to code rest.extends h) (rest.tests to code (back (size v) (size u) w to code c.extends.grows h) good);
    entries = c.entry ∷ rest.entries;
    enter = λ to code h. (c.enters to code (front (size v) u w to code rest.extends h), subst (λ z. EntriesAre to z cs rest.entries) c.next (rest.enter to code (back (size v) (size u) w to code c.extends.grows h)));
    bodies = λ to code h end after e is last joined.
        let later = rest.bodies to code (back (size v) (size u) w to code c.extends.grows h) end after (one_more p.clause o.clause (count cs) (length g.choice.rows.items) c.next e) is last joined in
        let here = c.body to code (front (size v) u w to code rest.extends h) false end after (λ x. absurd (not_true x)) is (λ le. sym (rest.only (zero_left p.clause (count cs) (length g.choice.rows.items) e le)) ∙ last) later.1 in
        ((here.0, later.0), here.1);
    some = λ k e. let l = joins' k e in rest.some l.0 l.1;
    only = λ e. absurd (no_suc e);
  }
    where
      not_true : false ≡ true → ⊥
      not_true x = absurd (cc)

      no_suc : suc (count cs) ≡ 0 → ⊥
      no_suc x = absurd (omega (arith, x))

  pub clauses_out : (start : ℕ) (cs : Clauses) (target : B.Target) (p : Progress) (v : Written) (o : Progress) (w : Written) → Ready start v (sides_of p.sides.items) → ClausesIn s g cs target p v o w → ClausesOut start cs target p v o w
  clauses_out start NoClauses target p v o w ready c = subst (λ x. ClausesOut start NoClauses target p v x w) (sym c.0) (subst (ClausesOut start NoClauses target p v p) (sym c.1) (out_none start target p v))
  clauses_out start (MoreClauses q b cs) target p v o w ready c =
      let out = clause_out start q b target p v c.0 c.1 ready c.2 in
      out_more start q b cs target p v c.0 c.1 o w (λ k e. join_some target c.0.clause c.2.last c.2.ended p.joined c.1 c.0.joined c.2.ends k e) out (clauses_out start cs target c.0 c.1 o w (inl out.labelled) c.3)

  -- the whole

  entry_at : (to : ℕ → ℕ) (i n : ℕ) (q : Pattern) (b : Block) (cs : Clauses) (e : Entry) (es : List Entry) (x : Pattern) → EntryIs to n q e → EntriesAre to (suc n) cs es → slice_get (q ∷ patterns_in cs) i ≡ Some x → (d : Entry) × (slice_get (e ∷ es) i ≡ Some d) × EntryIs to (n + i) x d
  entry_at to zero n q b cs e es x a as' f = (e, refl, subst (λ z. EntryIs to (n + 0) z e) (same_some q x f) (subst (λ z. EntryIs to z q e) (omega arith) a))
    where
      same_some : (x y : Pattern) → Some x ≡ Some y → x ≡ y
      same_some x y h = cc
  entry_at to (suc i) n q b NoClauses e es x a as' f = absurd (cc)
  entry_at to (suc i) n q b (MoreClauses p c cs) e [] x a as' f = absurd as'
  entry_at to (suc i) n q b (MoreClauses p c cs) e (d ∷ ds) x a as' f =
      let found = entry_at to i (suc n) p c cs d ds x as'.0 as'.1 f in (found.0, found.1, subst (λ z. EntryIs to z x found.0) (omega arith) found.2)

  arrives : (to : ℕ → ℕ) (code : List Instr) (start : ℕ) (c0 : Contents) (l : Lands sc to code start c0 c0) (i : ℕ) (x : Pattern) (d : Entry) → l.number ≡ i → l.pattern ≡ x → EntryIs to i x d → (bs : List Binding) → matching x (c0 (S.register (spot_of g.choice.root))) ≡ Some bs → Arrives code (place start c0) m bs d
  arrives to code start c0 l i x d e f h bs matched =
      subst (λ z. Arrives code (place start c0) m bs (record { at = z; known = d.known })) (ap (λ z. to (get_or g.choice.entries.items z 0)) e ∙ h.at)
      (arrives_entry s sc to code start m h.opened d.known c0 bs facts.is l (ap (λ z. matching z (c0 (S.register (spot_of g.choice.root)))) f ∙ matched) (resumes_on m g.entry h.opened facts.resumes h.resumes) refl
      (subst (λ z. Loses (entering_root s g.choice.takes z (spot_of g.choice.root) h.opened) d.known) (sym f) h.opens))

  pub chooses : (to : ℕ → ℕ) (code : List Instr) (start : ℕ) (q : Pattern) (b : Block) (cs : Clauses) (e : Entry) (es : List Entry) → patterns_of g.choice ≡ q ∷ patterns_in cs → Good sc to code start (Open []) [] → EntryIs to 0 q e → EntriesAre to 1 cs es → IsChoice code start m s.types g.choice.ty r q cs e es
  chooses to code start q b cs e es same good a as' =
      subst (λ z. IsChoice code start m s.types g.choice.ty z q cs e es) facts.root
      (is_choice sc to code start m q cs e es same good (λ c0 i x ty l f h.
      let found = entry_at to i 0 q b cs e es x a as' (ap (λ z. slice_get z i) (sym same) ∙ ap (slice_get (patterns_of g.choice)) (sym f) ∙ l.first.there ∙ ap Some h) in
      (found.0, found.1, λ bs matched. arrives to code start c0 l i x found.0 f h (subst (λ z. EntryIs to z x found.0) (omega arith) found.2) bs matched)))

-- what holds of a match that was begun

begun_facts : (s : Setting) (k : Known) (v : Written) (a : Argument) (t : ℕ) (q : Pattern) (cs : Clauses) (g : Matching) (w : Written) (h : Begins s k v a t q cs g w) → IsPattern s.types t (row_of q) → WellMatchedClauses s.types t cs → Facts s g h.known h.register
begun_facts s k v a t q cs g w h first others = record {
  is = record {
    roomy = h.positions.roomy;
    typed = λ i x e. subst (λ z. IsPattern s.types z (row_of x)) (sym h.positions.type) (typed i x (ap (λ z. slice_get z i) (sym h.patterns) ∙ e));
    differ = h.positions.spotted.differ;
    used = subst (λ z. z < h.known.next) (sym h.positions.root) h.used;
    fresh = λ z x. (h.positions.spotted.fresh z x).0;
  };
  has = h.positions.rows;
  root = h.positions.root;
  resumes = h.resumes;
  fresh = h.positions.spotted.fresh;
}
  where
    same_some : (x y : Pattern) → Some x ≡ Some y → x ≡ y
    same_some x y e = cc

    typed : (i : ℕ) (x : Pattern) → slice_get (q ∷ patterns_in cs) i ≡ Some x → IsPattern s.types t (row_of x)
    typed zero x e = subst (λ z. IsPattern s.types t (row_of z)) (same_some q x e) first
    typed (suc i) x e = typed_in s.types t cs others i x e

-- the place where clauses meet

abbrev pub Meeting : Matching → B.Target → Option Known → Written → Known → Written → Type 0
Meeting g B.Return j v l w = Extends v w × (size w ≡ size v)
Meeting g (B.Into ds) j v l w = Extends v w × (size w ≡ size v) × IsAt w g.end (size v) × ((k : Known) → j ≡ Some k → Meets k l × MeetsFirst k l)

meeting : (g : Matching) (target : B.Target) (j : Option Known) (v : Written) (l : Known) (w : Written) → EndsMatch g j v l w → ((ds : List ℕ) → target ≡ B.Into ds → (k : Known) × (j ≡ Some k)) → Meeting g target j v l w
meeting g B.Return None v l w e some = (subst (Extends v) (sym e) (same_extends v), ap size e)
meeting g B.Return (Some k) v l w e some = (e.extends, e.as_long)
meeting g (B.Into ds) None v l w e some = absurd (none_some (some ds refl).1)
  where
    none_some : {x : Known} → None ≡ Some x → ⊥
    none_some h = absurd (cc)
meeting g (B.Into ds) (Some k) v l w e some = (e.extends, e.as_long, e.placed, λ k' f. subst (λ x. Meets x l × MeetsFirst x l) (same_some k k' f) (meets_resumed k l e.resumes, first_resumed k l e.resumes))
  where
    same_some : (x y : Known) → Some x ≡ Some y → x ≡ y
    same_some x y h = cc

met_extends : (g : Matching) (target : B.Target) (j : Option Known) (v : Written) (l : Known) (w : Written) → Meeting g target j v l w → Extends v w × (size w ≡ size v)
met_extends g B.Return j v l w h = h
met_extends g (B.Into ds) j v l w h = (h.0, h.1)

-- the first clause reports what is known at its end
ends_some : (g : Matching) (target : B.Target) (n : ℕ) (k : Known) (v : Written) (j : Option Known) (u : Written) (jl : Option Known) → EndsIn g target n k v j u jl → (ds : List ℕ) → target ≡ B.Into ds → (l : Known) × (jl ≡ Some l)
ends_some g B.Return n k v j u jl e ds f = absurd (cc)
ends_some g (B.Into es) n k v j u jl e ds f = (e.joins.joined, e.joins.is)

pub same_rows : (c : Rattle.lower_parts.specs.declared.choice.Choice.Choice) → HasRows c → length c.rows.items ≡ length (patterns_of c)
same_rows c h = same_length c.rows.items (patterns_of c) h.same
  where
    mapped : {A B : Type 0} (f : A → B) (xs : List A) → length (map f xs) ≡ length xs
    mapped f [] = refl
    mapped f (x ∷ xs) = ap suc (mapped f xs)

    same_length : (rs : List Row) (qs : List Pattern) → rows rs ≡ map row_of qs → length rs ≡ length qs
    same_length rs qs f = sym (mapped Rattle.match_knowledge.specs.View.row rs) ∙ ap length f ∙ mapped row_of qs

all_rows : (c : Rattle.lower_parts.specs.declared.choice.Choice.Choice) (q : Pattern) (cs : Clauses) → HasRows c → patterns_of c ≡ q ∷ patterns_in cs → suc (count cs) ≡ length c.rows.items
all_rows c q cs h e = sym (same_rows c h ∙ ap length e ∙ ap suc (counted cs))

module _ (s : Setting) (k : Known) (v : Written) (a : Argument) (t : ℕ) (q : Pattern) (b : Block) (cs : Clauses) (g : Matching) (w0 : Written) (target : B.Target) (p0 p1 p2 : Progress) (w1 w2 : Written) (l : Known) (w : Written) (begun : Begins s k v a t q cs g w0) (at_start : sides_of p0.sides.items ≡ first_side ∷ []) (none : p0.clause ≡ 0) (unjoined : p0.joined ≡ None) (clause : ClauseIn s g (record { pattern = q; body = b }) target p0 w0 p1 w1) (clauses : ClausesIn s g cs target p1 w1 p2 w2) (ended : EndsMatch g p2.joined w2 l w) (typed_first : IsPattern s.types t (row_of q)) (typed_others : WellMatchedClauses s.types t cs) where
  abbrev m : Known
  m = begun.known

  abbrev r : ℕ
  r = begun.register

  facts : Facts s g m r
  facts = begun_facts s k v a t q cs g w0 begun typed_first typed_others

  first_out : ClauseOut s g m r facts (size w0) q b target p0 w0 p1 w1
  first_out = clause_out s g m r facts (size w0) q b target p0 w0 p1 w1 (inr (at_start, refl)) clause

  others_out : ClausesOut s g m r facts (size w0) cs target p1 w1 p2 w2
  others_out = clauses_out s g m r facts (size w0) cs target p1 w1 p2 w2 (inl first_out.labelled) clauses

  numbered : suc (count cs) ≡ length g.choice.rows.items
  numbered = all_rows g.choice q cs begun.positions.rows begun.patterns

  next : p1.clause ≡ 1
  next = first_out.next ∙ ap suc none

  all_of_them : p1.clause + count cs ≡ length g.choice.rows.items
  all_of_them = omega (arith, next, numbered)

  written : sides_of p2.sides.items ≡ []
  written = others_out.all all_of_them (λ e. first_out.all (omega (arith, none, numbered, e)))

  some_joined : (ds : List ℕ) → target ≡ B.Into ds → (x : Known) × (p2.joined ≡ Some x)
  some_joined ds e = let x = ends_some g target p1.clause clause.last clause.ended p0.joined w1 p1.joined clause.ends ds e in others_out.some x.0 x.1

  met : Meeting g target p2.joined w2 l w
  met = meeting g target p2.joined w2 l w ended some_joined

  last_on : Extends w2 w × (size w ≡ size w2)
  last_on = met_extends g target p2.joined w2 l w met

  from_computed : Extends begun.computed w0
  from_computed = extends_on begun.computed begun.given_up w0 begun.gives_up.extends begun.extends

  to_start : Extends v w0
  to_start = extends_on v begun.computed w0 begun.computes.extends from_computed

  from_first : Extends w1 w
  from_first = extends_on w1 w2 w others_out.extends last_on.0

  from_start : Extends w0 w
  from_start = extends_on w0 w1 w first_out.extends from_first

  after_all : After s g m r facts target p2.joined l
  after_all = by_target target refl met
    where
      by_target : (x : B.Target) → target ≡ x → Meeting g x p2.joined w2 l w → After s g m r facts x p2.joined l
      by_target B.Return e h = tt
      by_target (B.Into ds) e h = by_joined p2.joined refl h
        where
          by_joined : (j : Option Known) → p2.joined ≡ j → Meeting g (B.Into ds) j w2 l w → After s g m r facts (B.Into ds) j l
          by_joined None f h' = tt
          by_joined (Some x) f h' = h'.3 x refl

  end_is : (to : ℕ → ℕ) (code : List Instr) → HasFrom (size v) w to code → EndIs s g m r facts target to (size w)
  end_is to code h = by_target target met
    where
      by_target : (x : B.Target) → Meeting g x p2.joined w2 l w → EndIs s g m r facts x to (size w)
      by_target B.Return n = tt
      by_target (B.Into ds) n = h.at g.end (size w) (subst (IsAt w g.end) (sym n.1) n.2)

  number : (n : ℕ) × (size begun.computed + n ≡ size begun.given_up)
  number = up_to (size begun.computed) (size begun.given_up) begun.gives_up.extends.grows

  at_code : (to : ℕ → ℕ) (code : List Instr) → HasFrom (size v) w to code → B.ExpressionAt s code (size v) k (Match false t (record { line = 0; col = 0; at = 0 }) a q b cs) target (size w) l
  at_code to code h = (
    r,
    size begun.computed,
    m,
    number.0,
    first_out.entry,
    others_out.entries,
    begun.computes.code to code (front (size v) begun.computed w to code (extends_on begun.computed w0 w from_computed from_start) h),
    given_up begun.computed begun.given_up w0 (size v) number.0 to code begun.gives_up begun.extends (front (size v) w0 w to code from_start h) begun.computes.extends.grows number.1,
    choice,
    first_body.0,
    other_bodies.0,
  )
    where
      here : HasFrom (size w0) w to code
      here = back (size v) (size w0) w to code to_start.grows h

      of_first : HasFrom (size w0) w1 to code
      of_first = front (size w0) w1 w to code from_first here

      of_others : HasFrom (size w1) w2 to code
      of_others = front (size w1) w2 w to code last_on.0 (back (size w0) (size w1) w to code first_out.extends.grows here)

      good : Good (scene s.types m.next g.choice) to code (size w0) (Open []) []
      good = (subst (AllGood (scene s.types m.next g.choice) to code (size w0)) at_start
          (first_out.tests to code of_first (others_out.tests to code of_others
          (subst (AllGood (scene s.types m.next g.choice) to code (size w0)) (sym written) tt)))).0

      choice : IsChoice code (size begun.computed + number.0) m s.types t r q cs first_out.entry others_out.entries
      choice = subst (λ z. IsChoice code z m s.types t r q cs first_out.entry others_out.entries) (begun.as_long ∙ sym number.1)
          (subst (λ z. IsChoice code (size w0) m s.types z r q cs first_out.entry others_out.entries) begun.positions.type
          (chooses s g m r facts to code (size w0) q b cs first_out.entry others_out.entries begun.patterns good
          (subst (λ z. EntryIs s g m r facts to z q first_out.entry) none (first_out.enters to code of_first))
          (subst (λ z. EntriesAre s g m r facts to z cs others_out.entries) next (others_out.enter to code of_others))))

      other_bodies : B.ClausesAt s code m r cs others_out.entries target (size w) l × After s g m r facts target p1.joined l
      other_bodies = others_out.bodies to code of_others (size w) l all_of_them (end_is to code h) (sym last_on.1) after_all

      first_body : B.ClauseAt (Body s g m r facts code b target) code m r first_out.entry true target (size w) l × After s g m r facts target p0.joined l
      first_body = first_out.body to code of_first true (size w) l (λ x. unjoined) (end_is to code h)
          (λ le. sym (others_out.only (omega (arith, le, none, numbered))) ∙ sym last_on.1) other_bodies.1

  pub writes_match : (d : Bool) (x : Place) → Writes s k v (Match d t x a q b cs) target l w
  writes_match d x = record {
    extends = extends_on v w0 w to_start from_start;
    code = λ to code h. at_code to code h;
    stay = match_stays s k v a t q b cs g w0 target p0 p1 p2 w1 w2 l w begun at_start unjoined clause clauses ended;
    few = match_few s k v a t q b cs g w0 target p0 p1 p2 w1 w2 l w begun at_start unjoined clause clauses ended;
  }
