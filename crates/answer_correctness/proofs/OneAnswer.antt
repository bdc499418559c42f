-- Two answers of the same words are alike, but where an end isn't one, or memory ran out.
use Rattle.std.proofs.Common.{◌≡◌, ◌≢◌, ◌∙◌, inl, inr, ℕ, List, Option, Some, None, sym, ap, subst}
use Rattle.std.specs.Prelude.{◌⊎◌, Ok, Err}
use Rattle.std.specs.Io.KnownBytes.{Appends}
use Rattle.command_answers.specs.fip_outside.Files.{File}
use Rattle.command_answers.specs.command_library.command_words.Words.{Command, IsCommand}
use Rattle.command_answers.specs.Answer.{Shows, Host, IsAnswer, IsAlone, Answered}
use Rattle.command_answers.specs.Exec.{End}
use Rattle.command_answers.specs.Open.{IsOpen}
use Rattle.command_answers.proofs.OneCommand.{command_once}
use Rattle.command_answers.proofs.OneEnd.{comes_once}
use Rattle.answer_correctness.specs.Alike.{Finds, AreAlike}

-- after known bytes the same text makes the same
grown : (old text : List ℕ) (a b : Option (List ℕ)) → Appends (Some old) a text → Appends (Some old) b text → a ≡ b
grown old text None b h k = absurd h
grown old text (Some xs) None h k = absurd k
grown old text (Some xs) (Some ys) h k = ap (λ zs. Some zs) (h ∙ sym k)

module _ (out err : List ℕ) (h k : Host) (x : Finds h out err) (y : Finds k out err) where
  grown_out : (text : List ℕ) → Appends h.out h.out' text → Appends k.out k.out' text → h.out' ≡ k.out'
  grown_out text a b = grown out text h.out' k.out' (subst (λ o. Appends o h.out' text) x.on_out a) (subst (λ o. Appends o k.out' text) y.on_out b)

  grown_err : (text : List ℕ) → Appends h.err h.err' text → Appends k.err k.err' text → h.err' ≡ k.err'
  grown_err text a b = grown err text h.err' k.err' (subst (λ o. Appends o h.err' text) x.on_err a) (subst (λ o. Appends o k.err' text) y.on_err b)

  same_out : h.out' ≡ h.out → k.out' ≡ k.out → h.out' ≡ k.out'
  same_out a b = a ∙ (x.on_out ∙ (sym y.on_out ∙ sym b))

  same_err : h.err' ≡ h.err → k.err' ≡ k.err → h.err' ≡ k.err'
  same_err a b = a ∙ (x.on_err ∙ (sym y.on_err ∙ sym b))

  alone_alike : (files : List File) (status : ℕ) (text : List ℕ) → IsAlone files status text h → IsAlone files status text k → AreAlike h k
  alone_alike files status text a b = record { status = a.ended ∙ sym b.ended; out = same_out a.unwritten b.unwritten; err = grown_err text a.shown b.shown }

  shown_alike : (e : End) → Shows e h.out h.out' h.err h.err' h.status → Shows e k.out k.out' k.err k.err' k.status → AreAlike h k
  shown_alike (Ok text) a b = record { status = a.0 ∙ sym b.0; out = grown_out text a.2 b.2; err = same_err a.1 b.1 }
  shown_alike (Err f) a b = record { status = a.0 ∙ sym b.0; out = same_out a.1 b.1; err = grown_err _ a.2 b.2 }

  answers_alike : (files : List File) (input : List ℕ) (c : Command) (a : IsAnswer c files input h) (b : IsAnswer c files input k) → AreAlike h k ⊎ IsOpen files input c a.end b.end
  answers_alike files input c a b = by (comes_once files input c a.end b.end a.ends b.ends)
    where
      by : (a.end ≡ b.end) ⊎ IsOpen files input c a.end b.end → AreAlike h k ⊎ IsOpen files input c a.end b.end
      by (inl same) = inl (shown_alike b.end (subst (λ e. Shows e h.out h.out' h.err h.err' h.status) same a.shown) b.shown)
      by (inr more) = inr more

  module _ (words : List (List ℕ)) (files : List File) (input : List ℕ) where
    abbrev IsLeftOpen : Type 0
    IsLeftOpen = (c : Command) × IsCommand words c × ((a : IsAnswer c files input h) × (b : IsAnswer c files input k) × IsOpen files input c a.end b.end)

    opened : (c : Command) → IsCommand words c → (a : IsAnswer c files input h) (b : IsAnswer c files input k) → AreAlike h k ⊎ IsOpen files input c a.end b.end → AreAlike h k ⊎ IsLeftOpen
    opened c asked a b (inl same) = inl same
    opened c asked a b (inr more) = inr (c, asked, (a, b, more))

    pub one_answer : Answered words files input h → Answered words files input k → h.status ≢ 10 → k.status ≢ 10 → AreAlike h k ⊎ IsLeftOpen
    one_answer (inl a) b some more = absurd (some a.ended)
    one_answer a (inl b) some more = absurd (more b.ended)
    one_answer (inr (inl a)) (inr (inl b)) some more = inl (alone_alike files 2 _ a.1 b.1)
    one_answer (inr (inl a)) (inr (inr b)) some more = absurd (a.0 b.0 b.1)
    one_answer (inr (inr a)) (inr (inl b)) some more = absurd (b.0 a.0 a.1)
    one_answer (inr (inr a)) (inr (inr b)) some more =
        let mine : IsAnswer a.0 files input k = subst (λ c. IsAnswer c files input k) (command_once words b.0 a.0 b.1 a.1) b.2 in
        opened a.0 a.1 a.2 mine (answers_alike files input a.0 a.2 mine)
