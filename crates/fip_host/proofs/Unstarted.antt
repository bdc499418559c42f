-- What the status of a run that didn't start says, and that of results that weren't kept.
use Rattle.std.proofs.Common.{◌≡◌, ◌⊎◌, inl, inr, ℕ, List, [], length, map, arith}
use Rattle.std.specs.Prelude.{Result, Ok, Err, IfErr}
use Rattle.fip_host.specs.declared.answer.FipArgument.{FipArgument}
use Rattle.fip_host.specs.declared.answer.Refusal.{Refusal}
use Rattle.fip_host.specs.declared.answer.Refusal.TheVariants as R
use Rattle.fip_host.specs.Hosting.{Seen}
use Rattle.fip_host.specs.Starting.{IsUnstarted, LacksCredits, TakesOthers}
use Rattle.fip_host.specs.Statuses.{outcome_status, refusal_number}
use Rattle.fip_host.specs.Telling.{argument_word}
use Rattle.fip_host.specs.Unkept.{HasTooFew, IsUnkept, IsUnstartedOn, NamesNothing}

module _ (f : ℕ) (ws : List ℕ) (old new : Seen) (n : ℕ) where
  pub full : (r : Result (Unit {0}) Refusal) → n ≡ outcome_status r → IfErr r (IsUnstarted f ws old new) → n ≡ 6 → LacksCredits f ws old
  full (Ok x) e k h = absurd (omega (arith, e, h))
  full (Err (R.BadInput at)) e k h = absurd k
  full (Err (R.TooSmall needed given)) e k h = k
  full (Err R.NoMemory) e k h = absurd (omega (arith, e, h))
  full (Err R.OutOfRange) e k h = absurd (omega (arith, e, h))
  full (Err R.NotReady) e k h = absurd k
  full (Err R.WrongValue) e k h = absurd k

  pub ranged : (r : Result (Unit {0}) Refusal) → n ≡ outcome_status r → IfErr r (IsUnstarted f ws old new) → n ≡ 12 → TakesOthers f (length ws) old × (new ≡ old)
  ranged (Ok x) e k h = absurd (omega (arith, e, h))
  ranged (Err (R.BadInput at)) e k h = absurd k
  ranged (Err (R.TooSmall needed given)) e k h = absurd (omega (arith, e, h))
  ranged (Err R.NoMemory) e k h = absurd (omega (arith, e, h))
  ranged (Err R.OutOfRange) e k h = k
  ranged (Err R.NotReady) e k h = absurd k
  ranged (Err R.WrongValue) e k h = absurd k

  pub status : (r : Result (Unit {0}) Refusal) → n ≡ outcome_status r → IfErr r (IsUnstarted f ws old new) → (n ≡ 0) ⊎ (n ≡ 6) ⊎ (n ≡ 10) ⊎ (n ≡ 12)
  status (Ok x) e k = inl e
  status (Err (R.BadInput at)) e k = absurd k
  status (Err (R.TooSmall needed given)) e k = inr (inl e)
  status (Err R.NoMemory) e k = inr (inr (inl e))
  status (Err R.OutOfRange) e k = inr (inr (inr e))
  status (Err R.NotReady) e k = absurd k
  status (Err R.WrongValue) e k = absurd k

module _ (f : ℕ) (bs : List FipArgument) (m : Seen) (n : ℕ) where
  pub full_on : (r : Result (Unit {0}) Refusal) → n ≡ outcome_status r → IfErr r (IsUnstartedOn f bs m) → n ≡ 6 → LacksCredits f (map (argument_word m.kept) bs) m
  full_on (Ok x) e k h = absurd (omega (arith, e, h))
  full_on (Err (R.BadInput at)) e k h = absurd k
  full_on (Err (R.TooSmall needed given)) e k h = k
  full_on (Err R.NoMemory) e k h = absurd (omega (arith, e, h))
  full_on (Err R.OutOfRange) e k h = absurd (omega (arith, e, h))
  full_on (Err R.NotReady) e k h = absurd k
  full_on (Err R.WrongValue) e k h = absurd (omega (arith, e, h))

  pub ranged_on : (r : Result (Unit {0}) Refusal) → n ≡ outcome_status r → IfErr r (IsUnstartedOn f bs m) → n ≡ 12 → TakesOthers f (length bs) m ⊎ NamesNothing m.kept bs
  ranged_on (Ok x) e k h = absurd (omega (arith, e, h))
  ranged_on (Err (R.BadInput at)) e k h = absurd k
  ranged_on (Err (R.TooSmall needed given)) e k h = absurd (omega (arith, e, h))
  ranged_on (Err R.NoMemory) e k h = absurd (omega (arith, e, h))
  ranged_on (Err R.OutOfRange) e k h = k
  ranged_on (Err R.NotReady) e k h = absurd k
  ranged_on (Err R.WrongValue) e k h = absurd (omega (arith, e, h))

  pub status_on : (r : Result (Unit {0}) Refusal) → n ≡ outcome_status r → IfErr r (IsUnstartedOn f bs m) → (n ≡ 0) ⊎ (n ≡ 6) ⊎ (n ≡ 10) ⊎ (n ≡ 12) ⊎ (n ≡ 14)
  status_on (Ok x) e k = inl e
  status_on (Err (R.BadInput at)) e k = absurd k
  status_on (Err (R.TooSmall needed given)) e k = inr (inl e)
  status_on (Err R.NoMemory) e k = inr (inr (inl e))
  status_on (Err R.OutOfRange) e k = inr (inr (inr (inl e)))
  status_on (Err R.NotReady) e k = absurd k
  status_on (Err R.WrongValue) e k = inr (inr (inr (inr e)))

module _ (numbers : List ℕ) (m : Seen) (n : ℕ) where
  pub too_few : (r : Refusal) → n ≡ refusal_number r → IsUnkept numbers m r → n ≡ 12 → HasTooFew numbers m
  too_few (R.BadInput at) e k h = absurd k
  too_few (R.TooSmall needed given) e k h = absurd k
  too_few R.NoMemory e k h = absurd k
  too_few R.OutOfRange e k h = k
  too_few R.NotReady e k h = absurd (omega (arith, e, h))
  too_few R.WrongValue e k h = absurd k

  pub kept_status : (r : Refusal) → n ≡ refusal_number r → IsUnkept numbers m r → (n ≡ 0) ⊎ (n ≡ 12) ⊎ (n ≡ 13)
  kept_status (R.BadInput at) e k = absurd k
  kept_status (R.TooSmall needed given) e k = absurd k
  kept_status R.NoMemory e k = absurd k
  kept_status R.OutOfRange e k = inr (inl e)
  kept_status R.NotReady e k = inr (inr e)
  kept_status R.WrongValue e k = absurd k
