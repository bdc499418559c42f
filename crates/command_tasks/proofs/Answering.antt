-- The lines of tasks, one after another.
use Rattle.std.proofs.Common.{◌≡◌, ◌∙◌, ◌++◌, ◌≤◌, ◌+◌, ℕ, zero, suc, List, [], ◌∷◌, length, take, Some, None, refl, sym, ap, subst, append_assoc, append-nil, arith}
use Rattle.std.specs.Prelude.{Result, Ok, Err, IfOk, codes, slice_get}
use Rattle.std.proofs.lemmas.Option.{none-some, same_Some}
use Rattle.cell_code.specs.declared.code.Code.{Code}
use Rattle.command_outcome.specs.Texts.{line_end}
use Rattle.command_outcome.specs.Failures.{failure_text}
use Rattle.command_outcome.specs.declared.failure.Failure.{Failure}
use Rattle.fip_language.specs.Meaning.{Answer, Gives, Trap, Out, Deep, Stuck}
use Rattle.fip_language.specs.Table.{Table}
use Rattle.fip_language.specs.Values.{Values}
use Rattle.fip_machine.specs.declared.machine.Ended.{Ended}
use Rattle.fip_machine.specs.declared.machine.Ended.TheVariants as M
use Rattle.fip_tasks.specs.machine_semantics.States.{State}
use Rattle.fip_tasks.specs.declared.task.Start.{Start}
use Rattle.command_session.specs.command_run.machine_correctness.Meant.{IsMeant, ArePrintable}
use Rattle.command_session.proofs.command_run.machine_correctness.Texts.{printable}
use Rattle.command_session.specs.command_run.Starting.{failure_for}
use Rattle.command_session.specs.command_run.session_semantics.Turns.{joined}
use Rattle.command_tasks.specs.Telling.{ReportsAnswer, IsTaskLine, AreTaskLines}
use Rattle.command_tasks.proofs.Joining.{joined_on}

-- ---- one answer

-- a run that ended without a value is reported by its failure
pub failure_reported : (tb : Table) (types : List ℕ) (calls frames : ℕ) (x : Ended) (last : State) (given : List ℕ) (m : Answer) (f : Failure) (text : List ℕ) → failure_for x calls frames ≡ Some f → text ≡ failure_text f → IsMeant tb types x last given m → ReportsAnswer tb types calls frames m text
failure_reported tb types calls frames M.Value last given m f text e t h = absurd (none-some f e)
failure_reported tb types calls frames (M.Trap kind row col) last given (Gives vs left) f text e t h = absurd h
failure_reported tb types calls frames (M.Trap kind row col) last given (Trap k r c) f text e t h = let same : text ≡ failure_text f = t in cc
failure_reported tb types calls frames (M.Trap kind row col) last given Out f text e t h = absurd h
failure_reported tb types calls frames (M.Trap kind row col) last given Deep f text e t h = absurd h
failure_reported tb types calls frames (M.Trap kind row col) last given Stuck f text e t h = absurd h
failure_reported tb types calls frames M.Out last given m f text e t h = subst (λ a. ReportsAnswer tb types calls frames a text) (sym h) (t ∙ ap failure_text (sym (same_Some _ f e)))
failure_reported tb types calls frames M.Deep last given m f text e t h = subst (λ a. ReportsAnswer tb types calls frames a text) (sym h) (t ∙ ap failure_text (sym (same_Some _ f e)))

-- one with a value by its results
pub value_reported : (tb : Table) (types : List ℕ) (calls frames : ℕ) (x : Ended) (last : State) (given : List ℕ) (m : Answer) (text : List ℕ) → failure_for x calls frames ≡ None → ((vs : Values) → ArePrintable tb last.store.cells types given vs → text ≡ joined tb types vs line_end) → IsMeant tb types x last given m → ReportsAnswer tb types calls frames m text
value_reported tb types calls frames M.Value last given (Gives vs left) text e t h = t vs (printable tb last.store types given vs h)
value_reported tb types calls frames M.Value last given (Trap k r c) text e t h = absurd h
value_reported tb types calls frames M.Value last given Out text e t h = absurd h
value_reported tb types calls frames M.Value last given Deep text e t h = absurd h
value_reported tb types calls frames M.Value last given Stuck text e t h = absurd h
value_reported tb types calls frames (M.Trap kind row col) last given m text e t h = absurd cc
value_reported tb types calls frames M.Out last given m text e t h = absurd cc
value_reported tb types calls frames M.Deep last given m text e t h = absurd cc

-- ---- a line more

lines_push : (code : Code) (n : ℕ) (bs : List Start) (ms : List Answer) (text : List ℕ) (b : Start) (m : Answer) (line : List ℕ) → AreTaskLines code n bs ms text → IsTaskLine code (n + length bs) b m line → AreTaskLines code n (bs ++ b ∷ []) (ms ++ m ∷ []) (text ++ line)
lines_push code n [] [] text b m line h k =
    let here : IsTaskLine code n b m line = subst (λ j. IsTaskLine code j b m line) (let z : n + 0 ≡ n = omega arith in z) k in
    (line, [], here, ap (λ xs. xs ++ line) h ∙ sym (append-nil line), refl)
lines_push code n [] (y ∷ ms) text b m line h k = absurd h
lines_push code n (x ∷ bs) [] text b m line h k = absurd h
lines_push code n (x ∷ bs) (y ∷ ms) text b m line h k =
    let more : n + suc (length bs) ≡ suc n + length bs = omega arith in
    let rest = lines_push code (suc n) bs ms h.1 b m line h.4 (subst (λ j. IsTaskLine code j b m line) more k) in
    (h.0, h.1 ++ line, h.2, ap (λ xs. xs ++ line) h.3 ∙ append_assoc h.0 h.1 line, rest)

take_next : {A : Type 0} (xs : List A) (k : ℕ) (x : A) → slice_get xs k ≡ Some x → take (k + 1) xs ≡ take k xs ++ x ∷ []
take_next xs k x e = ap (λ n. take n xs) (let z : k + 1 ≡ suc k = omega arith in z) ∙ by xs k x e
  where
    by : {A : Type 0} (xs : List A) (k : ℕ) (x : A) → slice_get xs k ≡ Some x → take (suc k) xs ≡ take k xs ++ x ∷ []
    by [] k x e = absurd (none-some x e)
    by (y ∷ xs) zero x e = (let same : y ≡ x = same_Some y x e in ap (λ z. z ∷ []) same)
    by (y ∷ xs) (suc k) x e = ap (λ ys. y ∷ ys) (by xs k x e)

taken : {A : Type 0} (xs : List A) (k : ℕ) (x : A) → slice_get xs k ≡ Some x → length (take k xs) ≡ k
taken [] k x e = absurd (none-some x e)
taken (y ∷ xs) zero x e = refl
taken (y ∷ xs) (suc k) x e = ap suc (taken xs k x e)

pub line_more : (code : Code) (bs : List Start) (ms : List Answer) (k : ℕ) (b : Start) (m : Answer) (text new line : List ℕ) → slice_get bs k ≡ Some b → slice_get ms k ≡ Some m → AreTaskLines code 0 (take k bs) (take k ms) text → IsTaskLine code k b m line → new ≡ text ++ line → AreTaskLines code 0 (take (k + 1) bs) (take (k + 1) ms) new
line_more code bs ms k b m text new line at is h l e =
    let n : k ≡ 0 + length (take k bs) = (let t = taken bs k b at in omega (arith, t)) in
    let p = lines_push code 0 (take k bs) (take k ms) text b m line h (subst (λ j. IsTaskLine code j b m line) n l) in
    subst (λ xs. AreTaskLines code 0 xs (take (k + 1) ms) new) (sym (take_next bs k b at)) (subst (λ ys. AreTaskLines code 0 (take k bs ++ b ∷ []) ys new) (sym (take_next ms k m is)) (subst (AreTaskLines code 0 (take k bs ++ b ∷ []) (take k ms ++ m ∷ [])) (sym e) p))

take_whole : {A : Type 0} (k : ℕ) (xs : List A) → length xs ≤ k → take k xs ≡ xs
take_whole zero [] le = refl
take_whole (suc k) [] le = refl
take_whole zero (x ∷ xs) le = absurd (omega (arith, le))
take_whole (suc k) (x ∷ xs) le = ap (λ ys. x ∷ ys) (take_whole k xs (omega (arith, le)))

pub all_lines : (code : Code) (bs : List Start) (ms : List Answer) (k : ℕ) (text : List ℕ) → length bs ≤ k → length ms ≡ length bs → AreTaskLines code 0 (take k bs) (take k ms) text → AreTaskLines code 0 bs ms text
all_lines code bs ms k text le many h = subst (λ xs. AreTaskLines code 0 xs ms text) (take_whole k bs le) (subst (λ ys. AreTaskLines code 0 (take k bs) ys text) (take_whole k ms (omega (arith, le, many))) h)

pub some_at : {A B : Type 0} (xs : List A) (ys : List B) (k : ℕ) (x : A) → length ys ≡ length xs → slice_get xs k ≡ Some x → (y : B) × (slice_get ys k ≡ Some y)
some_at [] ys k x e h = absurd (none-some x h)
some_at (z ∷ xs) [] k x e h = absurd cc
some_at (z ∷ xs) (y ∷ ys) zero x e h = (y, refl)
some_at (z ∷ xs) (y ∷ ys) (suc k) x e h = some_at xs ys k x (cc) h

-- ---- a result whose text is reported for any values

pub all_of_ok : {A V E : Type 0} (r : Result A E) (P : V → Type 0) (Q : A → V → Type 0) (R : A → Type 0) → ((x : A) → ((v : V) → P v → Q x v) → R x) → ((v : V) → P v → IfOk r (λ x. Q x v)) → IfOk r R
all_of_ok (Ok x) P Q R f h = f x h
all_of_ok (Err e) P Q R f h = tt

pub of_ok : {A E : Type 0} (r : Result A E) (P Q : A → Type 0) → ((x : A) → P x → Q x) → IfOk r P → IfOk r Q
of_ok (Ok x) P Q f h = f x h
of_ok (Err e) P Q f h = tt

pub joined_line : (tb : Table) (types : List ℕ) (vs : Values) → joined tb types vs [] ++ codes "\n" ≡ joined tb types vs line_end
joined_line tb types vs = joined_on tb types vs [] line_end
