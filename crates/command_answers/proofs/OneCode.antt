-- What is said of a code file is one thing: its bytes encode one code at most, whose least violation and whose stack
-- numbers are one.
use Rattle.std.proofs.Common.{◌≡◌, ◌∙◌, ◌++◌, ℕ, zero, suc, Bool, true, false, List, [], ◌∷◌, Some, slice_get, sym, ap, ap₂, subst, refl, arith, if◌then◌else◌}
use Rattle.std.specs.Prelude.{Ok, Err, bytes_eq}
use Rattle.std.proofs.lemmas.Option.{none-some, same_Some}
use Rattle.std.proofs.lemmas.Slice.Eq.{bytes_eq-Decides}
use Rattle.command_library.proofs.fip_language.OnePlace.{IsPlace-unique, IsPlace-not_spelt}
use Rattle.command_library.specs.command_words.Words.{Room, Request, Command, Verify, Upgrade, Run}
use Rattle.command_library.specs.command_tasks.code_file.CodeText.{IsFileOf}
use Rattle.command_library.specs.code_rules.cell_code.CodeKinds.{fun_kind}
use Rattle.command_library.specs.code_rules.cell_code.Plain.{PlainFunction, PlainCode}
use Rattle.command_library.proofs.command_tasks.code_file.Whole.{one_code}
use Rattle.command_library.specs.code_rules.Breaks.{IsLeast}
use Rattle.command_library.proofs.code_rules.Numbers.{has_once}
use Rattle.command_library.proofs.code_rules.Order.{least_once}
use Rattle.command_library.specs.command_outcome.Successes.{function_text}
use Rattle.command_library.specs.command_outcome.declared.failure.Failure.{Failure}
use Rattle.command_library.specs.command_outcome.declared.failure.Failure.TheVariants as F
use Rattle.command_library.specs.command_source.Codes.{IsSoundFile, RefusesCode, LongFile, BadFile, UnsoundFile, IsLine, AreLines, IsCodeListing, IsUpgraded, IsUnspelt, HasFunction, has_named, names_one}
use Rattle.command_library.specs.command_run.CodeRun.{RunsCode}
use Rattle.command_library.proofs.command_run.CodeOnce.{code_run_once, code_run_there}
use Rattle.command_answers.specs.Ends.{Upgrades, RunsFile, NoFunction, LongRun, Runs, DoesCode, OnCode, CodeRefused, CodeSound}
use Rattle.command_answers.specs.Exec.{End}

-- ---- the code

pub code_same : (bytes : List ℕ) (c d : PlainCode) → IsFileOf bytes c → IsFileOf bytes d → c ≡ d
code_same bytes c d h k = (one_code bytes h.0 k.0 c d h.1 k.1).1

refused_not_sound : (bytes : List ℕ) (f : Failure) (c : PlainCode) → RefusesCode bytes f → IsSoundFile bytes c → ⊥
refused_not_sound bytes f c (LongFile more) h = let le = h.short in omega (arith, more, le)
refused_not_sound bytes f c (BadFile at le place) h = IsPlace-not_spelt IsFileOf bytes at c place h.spelt
refused_not_sound bytes f c (UnsoundFile code function at rule le spelt least) h =
    let same = code_same bytes code c spelt h.spelt in
    h.sound function at rule (subst (λ c. IsLeast c function at rule) same least).breaks

refused_once : (bytes : List ℕ) (f g : Failure) → RefusesCode bytes f → RefusesCode bytes g → f ≡ g
refused_once bytes f g (LongFile more) (LongFile other) = refl
refused_once bytes f g (LongFile more) (BadFile at le place) = absurd (omega (arith, more, le))
refused_once bytes f g (LongFile more) (UnsoundFile code function at rule le spelt least) = absurd (omega (arith, more, le))
refused_once bytes f g (BadFile at le place) (LongFile more) = absurd (omega (arith, more, le))
refused_once bytes f g (BadFile at le place) (BadFile other lo there) = ap F.BadCode (IsPlace-unique IsFileOf bytes at other place there)
refused_once bytes f g (BadFile at le place) (UnsoundFile code function i rule lo spelt least) = absurd (IsPlace-not_spelt IsFileOf bytes at code place spelt)
refused_once bytes f g (UnsoundFile code function i rule lo spelt least) (LongFile more) = absurd (omega (arith, more, lo))
refused_once bytes f g (UnsoundFile code function i rule lo spelt least) (BadFile at le place) = absurd (IsPlace-not_spelt IsFileOf bytes at code place spelt)
refused_once bytes f g (UnsoundFile c n i r lo spelt least) (UnsoundFile d m j s le also other) =
    let same = code_same bytes c d spelt also in
    let one = least_once d n i r m j s (subst (λ c. IsLeast c n i r) same least) other in
    (λ k. F.Unsound (one.0 k) (one.1 k) (one.2 k))

-- ---- its lines

line_once : (c : PlainCode) (n : ℕ) (f : PlainFunction) (name t u : List ℕ) → IsLine c n f name t → IsLine c n f name u → t ≡ u
line_once c n f [] t u h k = h ∙ sym k
line_once c n f (b ∷ name) t u h k =
    h.2 ∙ ap (λ s. function_text (b ∷ name) (fun_kind f.kind) f.credits s) (has_once c n h.0 k.0 h.1 k.1) ∙ sym k.2

lines_once : (c : PlainCode) (n : ℕ) (fs : List PlainFunction) (t u : List ℕ) → AreLines c n fs t → AreLines c n fs u → t ≡ u
lines_once c n [] t u h k = h ∙ sym k
lines_once c n (f ∷ fs) t u (line, rest, is, more, same) (other, end, was, further, also) =
    same ∙ ap₂ (λ a b. a ++ b) (line_once c n f f.name line other is was) (lines_once c (suc n) fs rest end more further) ∙ sym also

listing_once : (bytes t u : List ℕ) → IsCodeListing bytes t → IsCodeListing bytes u → t ≡ u
listing_once bytes t u h k =
    let same = code_same bytes h.code k.code h.file.spelt k.file.spelt in
    lines_once k.code 0 k.code.functions t u (subst (λ c. AreLines c 0 c.functions t) same h.lines) k.lines

spelt_or_unspelt : (bytes again : List ℕ) (code : PlainCode) → IsUpgraded bytes again → IsSoundFile bytes code → IsUnspelt code → ⊥
spelt_or_unspelt bytes again code h k none =
    let same = code_same bytes h.code code h.of'.spelt k.spelt in
    let more = subst (λ c. IsUnspelt c) (sym same) none again h.spelt in
    let le = h.short in
    omega (arith, more, le)

named_or_not : (bytes name other : List ℕ) (code : PlainCode) → name ≡ other → IsSoundFile bytes code → names_one name code.functions ≡ false → HasFunction bytes other → ⊥
named_or_not bytes name other code e h none (d, k, one) =
    let same = code_same bytes code d h.spelt k.spelt in
    let yes : names_one name code.functions ≡ true = ap₂ (λ n c. names_one n c.functions) e same ∙ one in
    absurd (let no : false ≡ true = sym none ∙ yes in cc)

-- ---- its run

-- a function that is there is found by its name
named_there : (name : List ℕ) (fs : List PlainFunction) (n : ℕ) (f : PlainFunction) → slice_get fs n ≡ Some f → f.name ≡ name → has_named name fs ≡ true
named_there name [] n f at is = absurd (none-some f at)
named_there name (g ∷ fs) zero f at is =
    let same : g.name ≡ name = ap (λ (h : PlainFunction). h.name) (same_Some g f at) ∙ is in
    ap (λ b. if b then true else has_named name fs) ((bytes_eq-Decides g.name name).1 same)
named_there name (g ∷ fs) (suc n) f at is = by (bytes_eq g.name name) (named_there name fs n f at is)
  where
    by : (b : Bool) → has_named name fs ≡ true → (if b then true else has_named name fs) ≡ true
    by true h = refl
    by false h = h

names_there : (name : List ℕ) (fs : List PlainFunction) (n : ℕ) (f : PlainFunction) → (name ≡ [] → ⊥) → slice_get fs n ≡ Some f → f.name ≡ name → names_one name fs ≡ true
names_there [] fs n f some at is = absurd (some refl)
names_there (b ∷ name) fs n f some at is = named_there (b ∷ name) fs n f at is

-- the file that is run has a function of the entry's name
ran_function : (bytes name input : List ℕ) (room : Room) (gauge : Bool) (e : End) → RunsCode bytes name input room gauge e → HasFunction bytes name
ran_function bytes name input room gauge e h =
    let x = code_run_there bytes name input room gauge e h in
    ((x.0).code, (x.1).file, names_there name (x.0).code.functions (x.0).number (x.0).function (x.1).some (x.1).there (x.1).named)

-- ---- the commands

upgraded_once : (bytes : List ℕ) (d e : End) → Upgrades bytes d → Upgrades bytes e → d ≡ e
upgraded_once bytes (Ok t) (Ok u) h k = ap (λ t. Ok t) (listing_once bytes t u h.0 k.0)
upgraded_once bytes (Ok t) (Err f) h k = absurd (spelt_or_unspelt bytes h.1.0 k.0.0 h.1.1 k.0.1 k.0.2)
upgraded_once bytes (Err f) (Ok t) h k = absurd (spelt_or_unspelt bytes k.1.0 h.0.0 k.1.1 h.0.1 h.0.2)
upgraded_once bytes (Err f) (Err g) h k = ap (λ f. Err f) (h.1 ∙ sym k.1)

upgraded_sound : (bytes : List ℕ) (e : End) → Upgrades bytes e → (code : PlainCode) × IsSoundFile bytes code
upgraded_sound bytes (Ok t) h = (h.0.code, h.0.file)
upgraded_sound bytes (Err f) h = (h.0.0, h.0.1)

module _ (bytes input : List ℕ) (r : Request) where
  pub file_run_once : (d e : End) → RunsFile bytes input r d → RunsFile bytes input r e → d ≡ e
  file_run_once d e (NoFunction code h none) (NoFunction other k absent) = refl
  file_run_once d e (NoFunction code h none) (LongRun has more) = absurd (named_or_not bytes r.entry r.entry code refl h none has)
  file_run_once d e (NoFunction code h none) (Runs f le k) = absurd (named_or_not bytes r.entry r.entry code refl h none (ran_function bytes r.entry input r.room r.gauge f k))
  file_run_once d e (LongRun has more) (NoFunction code h none) = absurd (named_or_not bytes r.entry r.entry code refl h none has)
  file_run_once d e (LongRun has more) (LongRun again further) = refl
  file_run_once d e (LongRun has more) (Runs f le k) = absurd (omega (arith, more, le))
  file_run_once d e (Runs f le k) (NoFunction code h none) = absurd (named_or_not bytes r.entry r.entry code refl h none (ran_function bytes r.entry input r.room r.gauge f k))
  file_run_once d e (Runs f le k) (LongRun has more) = absurd (omega (arith, more, le))
  file_run_once d e (Runs f le h) (Runs g lo k) = code_run_once bytes r.entry input r.room r.gauge f g h k

  file_run_sound : (e : End) → RunsFile bytes input r e → (code : PlainCode) × IsSoundFile bytes code
  file_run_sound e (NoFunction code h none) = (code, h)
  file_run_sound e (LongRun has more) = (has.0, has.1)
  file_run_sound e (Runs f le h) = let has = ran_function bytes r.entry input r.room r.gauge f h in (has.0, has.1)

-- what is done with a code is done with a sound one
done_sound : (bytes input : List ℕ) (c : Command) (e : End) → DoesCode bytes input c e → (code : PlainCode) × IsSoundFile bytes code
done_sound bytes input (Verify file) (Ok t) h = (h.code, h.file)
done_sound bytes input (Verify file) (Err f) h = absurd h
done_sound bytes input (Upgrade file out) e h = upgraded_sound bytes e h
done_sound bytes input (Run r) e h = file_run_sound bytes input r e h
done_sound bytes input c e h = absurd h

done_once : (bytes input : List ℕ) (c : Command) (d e : End) → DoesCode bytes input c d → DoesCode bytes input c e → d ≡ e
done_once bytes input (Verify file) (Ok t) (Ok u) h k = ap (λ t. Ok t) (listing_once bytes t u h k)
done_once bytes input (Verify file) (Ok t) (Err f) h k = absurd k
done_once bytes input (Verify file) (Err f) e h k = absurd h
done_once bytes input (Upgrade file out) d e h k = upgraded_once bytes d e h k
done_once bytes input (Run r) d e h k = file_run_once bytes input r d e h k
done_once bytes input c d e h k = absurd h

pub code_once : (bytes input : List ℕ) (c : Command) (d e : End) → OnCode bytes input c d → OnCode bytes input c e → d ≡ e
code_once bytes input c d e (CodeRefused f h) (CodeRefused g k) = ap (λ f. Err f) (refused_once bytes f g h k)
code_once bytes input c d e (CodeRefused f h) (CodeSound g k) = absurd (let s = done_sound bytes input c g k in refused_not_sound bytes f s.0 h s.1)
code_once bytes input c d e (CodeSound g k) (CodeRefused f h) = absurd (let s = done_sound bytes input c g k in refused_not_sound bytes f s.0 h s.1)
code_once bytes input c d e (CodeSound f h) (CodeSound g k) = done_once bytes input c f g h k
