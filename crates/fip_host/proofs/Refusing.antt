-- What is told of a text that wasn't loaded, by its status.
use Rattle.std.proofs.Common.{◌≡◌, ◌⊎◌, inl, inr, ℕ, List, None, slice_get, sym, subst, arith}
use Rattle.fip_host.specs.declared.answer.FipLoaded.{FipLoaded}
use Rattle.fip_host.specs.declared.answer.Refusal.{Refusal}
use Rattle.fip_host.specs.declared.answer.Refusal.TheVariants as R
use Rattle.fip_host.specs.Hosting.{Seen, loading_of}
use Rattle.fip_host.specs.Starting.{IsBadText, IsTooLarge, IsLost, KeepsFromText}
use Rattle.fip_host.specs.Statuses.{loaded_by, refusal_number}

module _ (f : ℕ) (text : List ℕ) (old new : Seen) (n : ℕ) (l m : FipLoaded) where
  pub bad : (r : Refusal) → n ≡ refusal_number r → m ≡ loaded_by r l → KeepsFromText f text old new r → n ≡ 5 → IsBadText f text old m.at
  bad (R.BadInput at) e q k h = subst (λ (x : FipLoaded). IsBadText f text old x.at) (sym q) k.0
  bad (R.TooSmall needed given) e q k h = absurd (omega (arith, e, h))
  bad R.NoMemory e q k h = absurd (omega (arith, e, h))
  bad R.OutOfRange e q k h = absurd (omega (arith, e, h))
  bad R.NotReady e q k h = absurd k
  bad R.WrongValue e q k h = absurd k

  pub large : (r : Refusal) → n ≡ refusal_number r → m ≡ loaded_by r l → KeepsFromText f text old new r → n ≡ 6 → IsTooLarge f text old m.needed m.given
  large (R.BadInput at) e q k h = absurd (omega (arith, e, h))
  large (R.TooSmall needed given) e q k h = subst (λ (x : FipLoaded). IsTooLarge f text old x.needed x.given) (sym q) k.0
  large R.NoMemory e q k h = absurd (omega (arith, e, h))
  large R.OutOfRange e q k h = absurd (omega (arith, e, h))
  large R.NotReady e q k h = absurd k
  large R.WrongValue e q k h = absurd k

  pub lost : (r : Refusal) → n ≡ refusal_number r → KeepsFromText f text old new r → n ≡ 10 → IsLost new
  lost (R.BadInput at) e k h = absurd (omega (arith, e, h))
  lost (R.TooSmall needed given) e k h = absurd (omega (arith, e, h))
  lost R.NoMemory e k h = k
  lost R.OutOfRange e k h = absurd (omega (arith, e, h))
  lost R.NotReady e k h = absurd k
  lost R.WrongValue e k h = absurd k

  pub ranged : (r : Refusal) → n ≡ refusal_number r → KeepsFromText f text old new r → n ≡ 12 → slice_get old.code.code.functions.items f ≡ None
  ranged (R.BadInput at) e k h = absurd (omega (arith, e, h))
  ranged (R.TooSmall needed given) e k h = absurd (omega (arith, e, h))
  ranged R.NoMemory e k h = absurd (omega (arith, e, h))
  ranged R.OutOfRange e k h = k.0
  ranged R.NotReady e k h = absurd k
  ranged R.WrongValue e k h = absurd k

  pub same : (r : Refusal) → n ≡ refusal_number r → KeepsFromText f text old new r → (n ≡ 5) ⊎ (n ≡ 6) ⊎ (n ≡ 12) → loading_of new ≡ loading_of old
  same (R.BadInput at) e k h = k.1
  same (R.TooSmall needed given) e k h = k.1
  same R.NoMemory e k (inl h) = absurd (omega (arith, e, h))
  same R.NoMemory e k (inr (inl h)) = absurd (omega (arith, e, h))
  same R.NoMemory e k (inr (inr h)) = absurd (omega (arith, e, h))
  same R.OutOfRange e k h = k.1
  same R.NotReady e k h = absurd k
  same R.WrongValue e k h = absurd k

  pub status : (r : Refusal) → n ≡ refusal_number r → KeepsFromText f text old new r → (n ≡ 0) ⊎ (n ≡ 5) ⊎ (n ≡ 6) ⊎ (n ≡ 10) ⊎ (n ≡ 12)
  status (R.BadInput at) e k = inr (inl e)
  status (R.TooSmall needed given) e k = inr (inr (inl e))
  status R.NoMemory e k = inr (inr (inr (inl e)))
  status R.OutOfRange e k = inr (inr (inr (inr e)))
  status R.NotReady e k = absurd k
  status R.WrongValue e k = absurd k
