-- What is read of an option.
use Rattle.std.proofs.Common.{arith, ◌≡◌, ◌≤◌, ◌≢◌, ◌∙◌, ◌<◌, ◌^◌, ℕ, List, sym, ap, subst, refl}
use Rattle.std.proofs.lemmas.Option.{same_Some, none-some}
use Rattle.std.specs.Prelude.{Result, Option, Some, None, IfSome, IsNone, Bool, true, false, codes}
use Rattle.std.specs.Str.Parse.{ParsesUnsigned, ExplainsUnsignedError, HasUnsignedDigitsIfOk, ParsesBool, IsNumeral, digits_value, without_leading_plus}
use Rattle.std.specs.declared.num.ParseIntError.{ParseIntError}
use Rattle.std.specs.declared.str.ParseBoolError.{ParseBoolError}
use Rattle.clap.specs.Words.{Text, Row, one_of, ReadsOne}
use Rattle.command_words.specs.Words.{IsNumberIn, flag_text}

abbrev pub Gives : List ℕ → Result ℕ ParseIntError → Type 0
Gives bs r = ParsesUnsigned 64 10 bs r × ExplainsUnsignedError 10 bs r × HasUnsignedDigitsIfOk bs r

-- the number that was read, where it isn't too great
pub number_read : (id : Text) (rows : List Row) (one : Option Text) (least most n : ℕ) → one ≡ one_of id rows → (one ≡ None → Some n ≡ None) → ((t : List ℕ) → one ≡ Some t → ReadsOne Gives t (Some n)) → least ≤ n → n ≤ most → IsNumberIn id least most rows n
number_read id rows None least most n is none value above le = absurd (none-some n (sym (none refl)))
number_read id rows (Some t) least most n is none value above le =
    let given = (value t refl).0 in
    record { text = t; given = sym is; numeral = given.0.0; value = given.1; fits = subst (λ k. k < 2 ^ 64) (sym given.1) given.0.1; above = above; within = le }

-- no number was read
pub number_unread : (id : Text) (rows : List Row) (one : Option Text) (least most : ℕ) → one ≡ one_of id rows → ((t : List ℕ) → one ≡ Some t → ReadsOne Gives t None) → (n : ℕ) → IsNumberIn id least most rows n → ⊥
number_unread id rows None least most is value n h = absurd (none-some h.text (is ∙ h.given))
number_unread id rows (Some t) least most is value n h =
    let same : t ≡ h.text = same_Some t h.text (is ∙ h.given) in
    (value t refl).1.0 (
      subst (λ t. IsNumeral 10 (without_leading_plus t)) (sym same) h.numeral,
      subst (λ t. digits_value 10 (without_leading_plus t) < 2 ^ 64) (sym same) (subst (λ k. k < 2 ^ 64) h.value h.fits),
    )

-- a number was read that is not in the range
pub number_outside : (id : Text) (rows : List Row) (one : Option Text) (least most m : ℕ) → one ≡ one_of id rows → ((t : List ℕ) → one ≡ Some t → ReadsOne Gives t (Some m)) → (least ≤ m → m ≤ most → ⊥) → (n : ℕ) → IsNumberIn id least most rows n → ⊥
number_outside id rows None least most m is value outside n h = absurd (none-some h.text (is ∙ h.given))
number_outside id rows (Some t) least most m is value outside n h =
    let same : t ≡ h.text = same_Some t h.text (is ∙ h.given) in
    let number : m ≡ n = (value t refl).0.1 ∙ (ap (λ t. digits_value 10 (without_leading_plus t)) same ∙ sym h.value) in
    outside (subst (λ k. least ≤ k) (sym number) h.above) (subst (λ k. k ≤ most) (sym number) h.within)

abbrev pub GivesBool : List ℕ → Result Bool ParseBoolError → Type 0
GivesBool bs r = ParsesBool bs r

pub flag_read : (id : Text) (rows : List Row) (one : Option Text) (r : Option Bool) → one ≡ one_of id rows → (one ≡ None → r ≡ None) → ((t : List ℕ) → one ≡ Some t → ReadsOne GivesBool t r) → IfSome r (λ b. one_of id rows ≡ Some (flag_text b))
flag_read id rows None r is none value = subst (λ r. IfSome r (λ b. one_of id rows ≡ Some (flag_text b))) (sym (none refl)) tt
flag_read id rows (Some t) None is none value = tt
flag_read id rows (Some t) (Some true) is none value = sym is ∙ ap Some (value t refl)
flag_read id rows (Some t) (Some false) is none value = sym is ∙ ap Some (value t refl)

flag_other : (t : Text) (b : Bool) → t ≢ codes "true" → t ≢ codes "false" → t ≡ flag_text b → ⊥
flag_other t true not_yes not_no e = not_yes e
flag_other t false not_yes not_no e = not_no e

pub flag_unread : (id : Text) (rows : List Row) (one : Option Text) (r : Option Bool) → one ≡ one_of id rows → (one ≡ None → r ≡ None) → ((t : List ℕ) → one ≡ Some t → ReadsOne GivesBool t r) → IsNone r → (b : Bool) → one_of id rows ≡ Some (flag_text b) → ⊥
flag_unread id rows None r is none value empty b h = absurd (none-some (flag_text b) (is ∙ h))
flag_unread id rows (Some t) (Some c) is none value empty b h = let e : true ≡ false = empty in cc
flag_unread id rows (Some t) None is none value empty b h =
    let given = (value t refl).1 in
    flag_other t b given.0 given.1 (same_Some t (flag_text b) (is ∙ h))
