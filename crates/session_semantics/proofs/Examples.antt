-- The session of the examples, line by line.
use Rattle.std.proofs.Common.{◌≡◌, ℕ, pos, List, [], ◌∷◌, inl, refl, arith}
use Rattle.std.specs.Prelude.{◌<◌, codes, FitsSigned}
use Rattle.std.specs.Int.{w64}
use Rattle.std.proofs.lemmas.Int.{fits_signed_from_abs}
use Rattle.command_outcome.specs.fip_language.Values.{Value, Int, Node, Values, End, More}
use Rattle.command_outcome.specs.fip_language.Meaning.{Gives}
use Rattle.instance_semantics.specs.Meaning.{flat_meaning}
use Rattle.instance_semantics.specs.Example.{lists, rev, ints}
use Rattle.session_semantics.specs.Lines.{Given, Held, Fresh, Calls, Number, Named, NoParts, MoreParts, SpellsLine, lines_of}
use Rattle.session_semantics.specs.Typed.{IsEntry}
use Rattle.session_semantics.specs.Talk.{State, at_first, Replies, Talks, NothingShown, Shown, GivenUp, Called', Done, WrongNumber, answer_of, Fits, holding, running, hold_all, ok_text}
use Rattle.session_semantics.specs.Example.{setting, spoken, replied, the_list}
use Rattle.command_outcome.proofs.fip_base.fip_language.Facts.{fits_bit as one_fits}

-- ---- a = rev(Cons(1, Nil), Nil)

first : List ℕ
first = codes "a = rev(Cons(1, Nil), Nil)"

abbrev given : List Given
given = Fresh (Named (codes "Cons") (MoreParts (Number (pos 1)) (MoreParts (Named (codes "Nil") NoParts) NoParts)))
    ∷ Fresh (Named (codes "Nil") NoParts) ∷ []

first_is_spelt : SpellsLine first (Calls (codes "a") [] (codes "rev") given)
unfolding first
first_is_spelt = (
  _,
  _,
  record { small = tt; is = refl; free = refl; then' = refl },
  refl,
  (
    _,
    _,
    _,
    record { small = tt; is = refl; free = refl; then' = refl },
    refl,
    (
      _,
      (tt, refl, (_, _, refl, (refl, refl), (_, _, refl, (tt, refl, ((λ h. h), refl)), refl))),
      (_, _, refl, (tt, refl, ((λ h. h), refl)), refl),
    ),
    refl,
  ),
)

rev_is_called : IsEntry lists (codes "rev") 0 rev
rev_is_called = record { there = refl; root = refl; named = refl; runs = λ e. absurd cc }

abbrev one : Value
one = Node 1 (More (Int (pos 1)) (More (Node 0 End) End))

abbrev arguments : Values
arguments = More one (More (Node 0 End) End)

first_fits : Fits setting at_first (codes "a" ∷ []) 0 rev given arguments
first_fits = record {
  called = record {
    count = refl;
    taken = ((_, refl, refl, ((refl, one_fits 1 (omega arith)), ((_, refl, refl, tt), tt))), ((_, refl, refl, tt), tt));
    free = (record { once = refl; free = inl refl }, tt);
  };
  room = omega arith;
}

rev_gives : answer_of setting 0 arguments ≡ Gives (More one End) 998
unfolding flat_meaning
rev_gives = refl

abbrev held : State
held = holding (running setting at_first rev given arguments) (hold_all (codes "a" ∷ []) rev.results (More one End))

first_is_done : Replies setting at_first first ok_text held
first_is_done = Called' (codes "a") [] (codes "rev") given ok_text held first_is_spelt
    (Done 0 rev arguments (More one End) 998 rev_is_called first_fits rev_gives)

-- ---- ?a, ?b

shown : Replies setting held (codes "?a") the_list held
shown = Shown (codes "a") (record { name = codes "a"; type = ints; value = one })
    (_, _, refl, record { small = tt; is = refl; free = refl; then' = refl }, refl) refl

nothing : Replies setting held (codes "?b") (codes "no name b\n") held
nothing = NothingShown (codes "b") (_, _, refl, record { small = tt; is = refl; free = refl; then' = refl }, refl) refl

-- ---- b = rev(a)

wrong : Replies setting held (codes "b = rev(a)") (codes "wrong number\n") held
wrong = Called' (codes "b") [] (codes "rev") (Held (codes "a") ∷ []) (codes "wrong number\n") held (
  _,
  _,
  record { small = tt; is = refl; free = refl; then' = refl },
  refl,
  (
    _,
    _,
    _,
    record { small = tt; is = refl; free = refl; then' = refl },
    refl,
    (_, record { small = tt; is = refl; free = refl; then' = refl }, refl),
    refl,
  ),
)
    (WrongNumber 0 rev rev_is_called (inl (λ e. absurd cc)))

-- ---- -a, ?a

abbrev empty_handed : State
empty_handed = record { held = []; made = held.made }

given_up : Replies setting held (codes "-a") ok_text empty_handed
given_up = GivenUp (codes "a") (record { name = codes "a"; type = ints; value = one })
    (_, _, refl, record { small = tt; is = refl; free = refl; then' = refl }, refl) refl

gone : Replies setting empty_handed (codes "?a") (codes "no name a\n") empty_handed
gone = NothingShown (codes "a") (_, _, refl, record { small = tt; is = refl; free = refl; then' = refl }, refl) refl

pub session_talks : Talks setting at_first (lines_of spoken) replied
unfolding first
session_talks = (
  ok_text,
  _,
  held,
  first_is_done,
  refl,
  (
    the_list,
    _,
    held,
    shown,
    refl,
    (
      codes "no name b\n",
      _,
      held,
      nothing,
      refl,
      (
        codes "wrong number\n",
        _,
        held,
        wrong,
        refl,
        (
          ok_text,
          _,
          empty_handed,
          given_up,
          refl,
          (codes "no name a\n", _, empty_handed, gone, refl, refl),
        ),
      ),
    ),
  ),
)
