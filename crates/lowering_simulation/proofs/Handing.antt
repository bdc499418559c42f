-- A run gives up what is left, and hands results on.
use Rattle.std.proofs.Common.{◌≡◌, ◌⊎◌, inl, inr, ℕ, zero, suc, ◌≤◌, ◌+◌, List, [], ◌∷◌, Option, Some, None, refl, sym, ap, ◌∙◌, subst, arith, slice_get, length}
use Rattle.tree_refinement.specs.fip_language.Values.{Values, End, More}
use Rattle.tree_refinement.specs.fip_language.Meaning.{Answer, Gives, Peak, Environment}
use Rattle.tree_refinement.specs.fip_language.Every.{Every, Among}
use Rattle.tree_refinement.specs.cell_code.declared.code.Instr.{Instr}
use Rattle.tree_refinement.specs.cell_code.declared.code.Instr.TheVariants as I
use Rattle.tree_refinement.specs.cell_code.Plain.{PlainCode}
use Rattle.lowering_relation.specs.machine_semantics.Codes.{instr_at}
use Rattle.lowering_relation.specs.tree_semantics.Contents.{Contents, put, put_all, read_all}
use Rattle.lowering_relation.specs.tree_semantics.States.{Frame, Went}
use Rattle.lowering_relation.specs.tree_semantics.Steps.{act, returned}
use Rattle.tree_refinement.proofs.tree_semantics.Puts.{put_same, put_other}
use Rattle.lowering_relation.specs.Tidy.{Fixed, Unknown}
use Rattle.lowering_relation.specs.Known.{Known, register_of}
use Rattle.lowering_relation.specs.LoweredBodies.{Target, Return, Into, GivesUp, GiveUp, IsMove, IsThere, MovedAt, GivenAt}
use Rattle.lowering_simulation.specs.Distinct.{Differ}
use Rattle.lowering_simulation.specs.RunEnds.{words_of_all}
use Rattle.lowering_simulation.proofs.Leads.{Coming, After, LeadsTo, and_on, following, after_own, coming, does, next_is}
use Rattle.lowering_simulation.proofs.Statics.{Step, tidy_on, unknown_on}
use Rattle.lowering_simulation.proofs.Naming.{Holds}
use Rattle.lowering_simulation.proofs.Later.{moved_step}
use Rattle.lowering_simulation.proofs.Arguments.{World, state, here, goes_on, comes_there}

-- what is written is read no more
abbrev pub Clean : List ℕ → List ℕ → Type 0
Clean [] ds = Unit {0}
Clean (r ∷ rs) [] = Unit {0}
Clean (r ∷ rs) (d ∷ ds) = (Among d rs → ⊥) × Clean rs ds

clean_less : (r : ℕ) (rs ds : List ℕ) → Every (λ d. Among d (r ∷ rs) → ⊥) ds → Every (λ d. Among d rs → ⊥) ds
clean_less r rs [] h = tt
clean_less r rs (d ∷ ds) h = (λ m. h.0 (inr m), clean_less r rs ds h.1)

pub clean_of : (rs ds : List ℕ) → Every (λ d. Among d rs → ⊥) ds → Clean rs ds
clean_of [] ds h = tt
clean_of (r ∷ rs) [] h = tt
clean_of (r ∷ rs) (d ∷ ds) h = (λ m. h.0 (inr m), clean_of rs ds (clean_less r rs ds h.1))

abbrev pub CleanTarget : List ℕ → Target → Type 0
CleanTarget rs Return = Unit {0}
CleanTarget rs (Into ds) = Clean rs ds × Differ ds

pub every_unknown : (k l : Known) (ds : List ℕ) → Step k l → Every (Unknown k) ds → Every (Unknown l) ds
every_unknown k l [] s h = tt
every_unknown k l (d ∷ ds) s h = (unknown_on k l d s h.0, every_unknown k l ds s h.1)

among_unknown : (k : Known) (ds : List ℕ) (d : ℕ) → Every (Unknown k) ds → Among d ds → Unknown k d
among_unknown k [] d h m = absurd m
among_unknown k (e ∷ ds) d h (inl same) = subst (Unknown k) (sym same) h.0
among_unknown k (e ∷ ds) d h (inr m) = among_unknown k ds d h.1 m

-- only registers were written of which nothing was known
pub world_but : (k l : Known) (ds : List ℕ) (env : Environment) (cs es : Contents) → Step k l → ((r : ℕ) → Fixed k r → (Among r ds → ⊥) → es r ≡ cs r) → Every (Unknown k) ds → World k env cs → World l env es
world_but k l ds env cs es s p u w = record {
  tidy = tidy_on k l s w.tidy;
  agrees = λ x r v h e. let was = ap (λ ns. register_of ns (Some x)) (sym s.names) ∙ h in p r (w.tidy.named x r was) (λ m. (among_unknown k ds r u m).unnamed x r was refl) ∙ w.agrees x r v was e;
  bares = λ r t b h. let was = s.barer r t b h in p r (w.tidy.bare r t b was) (λ m. (among_unknown k ds r u m).no_bare r t b was refl) ∙ w.bares r t b was;
}

-- what is known is so, and of the registers that get results nothing is known
abbrev pub Ready : Target → Known → Environment → Contents → Type 0
Ready Return k env cs = Unit {0}
Ready (Into ds) k env cs = World k env cs × Every (Unknown k) ds

read_same : (cs es : Contents) (rs : List ℕ) → ((r : ℕ) → Among r rs → es r ≡ cs r) → read_all es rs ≡ read_all cs rs
read_same cs es [] h = refl
read_same cs es (r ∷ rs) h = ap (λ v. More v (read_all es rs)) (h r (inl refl)) ∙ ap (More (cs r)) (read_same cs es rs (λ q m. h q (inr m)))

holds_none : (cs : Contents) (ds : List ℕ) → Holds cs ds End
holds_none cs [] = tt
holds_none cs (d ∷ ds) = tt

-- what a Put of all results does
pub put_all_other : (cs : Contents) (ds : List ℕ) (vs : Values) (r : ℕ) → (Among r ds → ⊥) → put_all cs ds vs r ≡ cs r
put_all_other cs [] vs r n = refl
put_all_other cs (d ∷ ds) End r n = refl
put_all_other cs (d ∷ ds) (More v vs) r n = put_all_other (put cs d v) ds vs r (λ m. n (inr m)) ∙ put_other cs d v r (λ e. n (inl e))

pub put_all_holds : (cs : Contents) (ds : List ℕ) (vs : Values) → Differ ds → Holds (put_all cs ds vs) ds vs
put_all_holds cs [] vs d = tt
put_all_holds cs (e ∷ ds) End d = tt
put_all_holds cs (e ∷ ds) (More v vs) d = (put_all_other (put cs e v) ds vs e d.0 ∙ put_same cs e v e refl, put_all_holds (put cs e v) ds vs d.1)

module _ (code : PlainCode) (width : ℕ → ℕ) (f : ℕ) (is : List Instr) (has : (p : ℕ) (i : Instr) → slice_get is p ≡ Some i → instr_at code f p ≡ Some i) (waiting : List Frame) (free : ℕ) where
  abbrev There : ℕ → Contents → ℕ → Coming
  There p cs left = here code width f is has waiting free p cs left

  -- an instruction that gives up only goes on
  gives_up_one : (o : Option Instr) (p : ℕ) (cs : Contents) → GivesUp o → (i : Instr) × (o ≡ Some i) × (act code (state code width f is has waiting free p cs) i ≡ Went (state code width f is has waiting free (suc p) cs))
  gives_up_one None p cs h = absurd h
  gives_up_one (Some (I.Const d v)) p cs h = absurd h
  gives_up_one (Some (I.Atom d t c)) p cs h = absurd h
  gives_up_one (Some (I.Move d r)) p cs h = absurd h
  gives_up_one (Some (I.Arith d o x y line col)) p cs h = absurd h
  gives_up_one (Some (I.Test r c target)) p cs h = absurd h
  gives_up_one (Some (I.TestInt r v target)) p cs h = absurd h
  gives_up_one (Some (I.Peek d r i)) p cs h = absurd h
  gives_up_one (Some (I.Take r [])) p cs h = (I.Take r [], refl, refl)
  gives_up_one (Some (I.Take r (d ∷ ds))) p cs h = absurd h
  gives_up_one (Some (I.Put r t c ss)) p cs h = absurd h
  gives_up_one (Some (I.Drop r)) p cs h = (I.Drop r, refl, refl)
  gives_up_one (Some (I.Free r)) p cs h = (I.Free r, refl, refl)
  gives_up_one (Some (I.Call g ss ds)) p cs h = absurd h
  gives_up_one (Some (I.Tail g ss)) p cs h = absurd h
  gives_up_one (Some (I.Ret ss)) p cs h = absurd h
  gives_up_one (Some (I.Jump target)) p cs h = absurd h

  pub gives_up : (n at : ℕ) (cs : Contents) (left : ℕ) (to : Coming) → GiveUp is n at → LeadsTo code width (There (at + n) cs left) to → LeadsTo code width (There at cs left) to
  gives_up zero at cs left to h go = comes_there code width f is has waiting free at (at + zero) cs left to (omega arith) go
  gives_up (suc n) at cs left to h go =
      let one = gives_up_one (slice_get is at) at cs (h at (omega arith) (omega arith)) in
      goes_on code width f is has waiting free at (suc at) one.0 cs cs left to one.1 refl one.2
      (gives_up n (suc at) cs left to (λ p le lt. h p (omega (arith, le)) (omega (arith, lt)))
      (comes_there code width f is has waiting free (suc at + n) (at + suc n) cs left to (omega arith) go))

  moves_one : (at : ℕ) (k : Known) (r d end : ℕ) (l : Known) (cs : Contents) (left : ℕ) (to : Coming) → IsMove is at k r d end l ⊎ IsThere at k r d end l → ((es : Contents) → es d ≡ cs r → ((q : ℕ) → (q ≡ d → ⊥) → es q ≡ cs q) → LeadsTo code width (There end es left) to) → LeadsTo code width (There at cs left) to
  moves_one at k r d end l cs left to (inl h) go =
      goes_on code width f is has waiting free at end (I.Move d r) cs (put cs d (cs r)) left to h.written h.one refl
      (go (put cs d (cs r)) (put_same cs d (cs r) d refl) (λ q ne. put_other cs d (cs r) q ne))
  moves_one at k r d end l cs left to (inr h) go =
      comes_there code width f is has waiting free at end cs left to h.nothing (go cs (ap cs (sym h.same)) (λ q ne. refl))

  pub moves_run : (at : ℕ) (k : Known) (rs ds : List ℕ) (end : ℕ) (l : Known) (cs : Contents) (left : ℕ) (to : Coming) → MovedAt is at k rs ds end l → Clean rs ds → Differ ds → ((es : Contents) → ((r : ℕ) → (Among r ds → ⊥) → es r ≡ cs r) → Holds es ds (read_all cs rs) → LeadsTo code width (There end es left) to) → LeadsTo code width (There at cs left) to
  moves_run at k [] ds end l cs left to h c d go =
      comes_there code width f is has waiting free at end cs left to h.0 (go cs (λ r n. refl) (holds_none cs ds))
  moves_run at k (r ∷ rs) [] end l cs left to h c d go =
      comes_there code width f is has waiting free at end cs left to h.0 (go cs (λ q n. refl) tt)
  moves_run at k (r ∷ rs) (e ∷ ds) end l cs left to h c d go =
      moves_one at k r e h.0 h.1 cs left to h.2
      (λ cs1 is1 same1. moves_run h.0 h.1 rs ds end l cs1 left to h.3 c.1 d.1
      (λ es same held. go es
      (λ q n. same q (λ m. n (inr m)) ∙ same1 q (λ x. n (inl x)))
      (same e d.0 ∙ is1, subst (Holds es ds) (read_same cs cs1 rs (λ q m. same1 q (λ x. c.0 (subst (λ y. Among y rs) x m)))) held)))

  -- where the results of an expression go on, whose answer is a
  abbrev pub Goes : Target → Known → Environment → ℕ → ℕ → Answer → (Values → ℕ → Coming) → Type 0
  Goes Return l env end m a go = (vs : Values) (n : ℕ) → LeadsTo code width (coming n (returned code waiting free vs)) (go vs n)
  Goes (Into ds) l env end m a go = (vs : Values) (n : ℕ) (es : Contents) → a ≡ Gives vs n → n ≤ m → World l env es → Holds es ds vs → LeadsTo code width (There end es n) (go vs n)

  -- the same answer
  pub goes_as : (target : Target) (l : Known) (env : Environment) (end m : ℕ) (a b : Answer) (go : Values → ℕ → Coming) → a ≡ b → Goes target l env end m a go → Goes target l env end m b go
  goes_as Return l env end m a b go e goes = goes
  goes_as (Into ds) l env end m a b go e goes = λ vs n es f le w held. goes vs n es (e ∙ f) le w held

  -- the height of its frame, with those that wait
  abbrev pub own : Peak
  own = record { frames = length waiting; words = width f + words_of_all width waiting }

  pub given_runs : (at : ℕ) (k : Known) (rs : List ℕ) (target : Target) (end : ℕ) (l : Known) (env : Environment) (cs : Contents) (left m : ℕ) (a : Answer) (go : Values → ℕ → Coming) → GivenAt is at k rs target end l → CleanTarget rs target → Ready target k env cs → left ≤ m → a ≡ Gives (read_all cs rs) left → Goes target l env end m a go → LeadsTo code width (There at cs left) (After own (go (read_all cs rs) left))
  given_runs at k rs Return end l env cs left m a go h c ready le e goes =
      gives_up h.given_up at cs left (After own (go (read_all cs rs) left)) h.give_up
      (and_on code width (There (at + h.given_up) cs left) (After own (coming left (returned code waiting free (read_all cs rs)))) (After own (go (read_all cs rs) left))
      (does code width (state code width f is has waiting free (at + h.given_up) cs) left (returned code waiting free (read_all cs rs)) (next_is code width (state code width f is has waiting free (at + h.given_up) cs) (I.Ret rs) (has (at + h.given_up) (I.Ret rs) h.written)))
      (following code width own (coming left (returned code waiting free (read_all cs rs))) (go (read_all cs rs) left) (goes (read_all cs rs) left)))
  given_runs at k rs (Into ds) end l env cs left m a go h c ready le e goes =
      after_own code width (state code width f is has waiting free at cs) left (go (read_all cs rs) left)
      (moves_run at k rs ds end l cs left (go (read_all cs rs) left) h c.0 c.1
      (λ es same held. goes (read_all cs rs) left es e le (world_but k l ds env cs es (moved_step is at k rs ds end l h) (λ r fixed no. same r no) ready.1 ready.0) held))
