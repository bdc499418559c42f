-- Why cells of these sizes aren't made.
use Rattle.std.proofs.Common.{◌≡◌, ◌<◌, ◌≤◌, inl, inr, ℕ, zero, suc, List, [], ◌∷◌, Some, length, slice_get, get_or, refl, ap, ◌∙◌, subst, take, arith}
use Rattle.fip_language.specs.declared.limits.TheConstants.{MOST_FIELDS}
use Rattle.fip_machine.specs.cell_store.Made.{Loading}
use Rattle.value_text.specs.Loaded.{AreSizes}
use Rattle.fip_host.specs.declared.answer.Refusal.{Refusal}
use Rattle.fip_host.specs.declared.answer.Refusal.TheVariants as R
use Rattle.std.specs.Prelude.{Option, map, replicate}
use Rattle.fip_host.specs.declared.answer.FipArgument.{FipArgument}
use Rattle.fip_host.specs.declared.hosted.Kept.{Kept}
use Rattle.fip_host.specs.Telling.{argument_word}
use Rattle.fip_host.specs.Unkept.{AreNoWords, IsUnstartedOn, NamesNothing}
use Rattle.fip_host.specs.Making.{HasMade}
use Rattle.fip_machine.specs.cell_code.declared.code.Function.{Function}
use Rattle.fip_host.specs.Hosting.{Seen, loading_of}
use Rattle.fip_host.specs.Starting.{AreUnmade, IsUnmade, IsUnstarted, LacksRoom}
use Rattle.fip_host.proofs.Growing.{zeros}

pub sized : (ks : List ℕ) (i : ℕ) → AreSizes ks → i < length ks → (0 < get_or ks i 0) × (get_or ks i 0 ≤ MOST_FIELDS)
sized [] i h lt = absurd (omega (arith, lt))
sized (k ∷ ks) zero h lt = (h.0, h.1)
sized (k ∷ ks) (suc i) h lt = sized ks i h.2 (omega (arith, lt))

there : (ks : List ℕ) (i : ℕ) → i < length ks → slice_get ks i ≡ Some (get_or ks i 0)
there [] i lt = absurd (omega (arith, lt))
there (k ∷ ks) zero lt = refl
there (k ∷ ks) (suc i) lt = there ks i (omega (arith, lt))

repeated : (k : ℕ) → length (replicate {A = ℕ} k 0) ≡ k
repeated zero = refl
repeated (suc k) = ap suc (repeated k)

pub zeros_long : (n k : ℕ) → k ≤ n → length (take {A = ℕ} k (replicate n 0)) ≡ k
zeros_long n k h = ap length (zeros n k h) ∙ repeated k

pub unmade : (ks ws vs fields : List ℕ) (first now : Loading) (i : ℕ) (e : Refusal) → AreSizes ks → i < length ks →
    length fields ≡ get_or ks i 0 → HasMade (take i ks) ws vs first now → IsUnmade fields now e → AreUnmade ks ws first e
unmade ks ws vs fields first now i (R.BadInput at) h lt q m u = absurd u
unmade ks ws vs fields first now i (R.TooSmall needed given) h lt q m u = record {
  count = i;
  size = get_or ks i 0;
  next = there ks i lt;
  with_made = vs;
  now = now;
  made = m;
  more = omega (arith, u, q);
}
unmade ks ws vs fields first now i R.NoMemory h lt q m u = u
unmade ks ws vs fields first now i R.OutOfRange h lt q m (inl u) =
    let s = (sized ks i h lt).0 in absurd (omega (arith, u, q, s))
unmade ks ws vs fields first now i R.OutOfRange h lt q m (inr u) =
    let s = (sized ks i h lt).1 in absurd (omega (arith, u, q, s))
unmade ks ws vs fields first now i R.NotReady h lt q m u = absurd u
unmade ks ws vs fields first now i R.WrongValue h lt q m u = absurd u

pub unstarted : (f : ℕ) (g : Function) (ws vs ks : List ℕ) (old new : Seen) (l : Loading) (e : Refusal) →
    slice_get old.code.code.functions.items f ≡ Some g → ks ≡ g.credits.items → vs ≡ ws → l ≡ loading_of old →
    AreUnmade ks vs l e → IsUnstarted f ws old new e
unstarted f g ws vs ks old new l (R.BadInput at) h q w m u = absurd u
unstarted f g ws vs ks old new l (R.TooSmall needed given) h q w m u = record {
  function = g;
  is = h;
  room = subst (λ (x : Loading). LacksRoom g.credits.items ws x) m (subst (λ (x : List ℕ). LacksRoom g.credits.items x l) w (subst (λ (x : List ℕ). LacksRoom x vs l) q u));
}
unstarted f g ws vs ks old new l R.NoMemory h q w m u = u
unstarted f g ws vs ks old new l R.OutOfRange h q w m u = absurd u
unstarted f g ws vs ks old new l R.NotReady h q w m u = absurd u
unstarted f g ws vs ks old new l R.WrongValue h q w m u = absurd u

pub unstarted_on : (f : ℕ) (g : Function) (bs : List FipArgument) (vs ks : List ℕ) (m : Seen) (l : Loading) (e : Refusal) →
    slice_get m.code.code.functions.items f ≡ Some g → ks ≡ g.credits.items →
    vs ≡ map (argument_word m.kept) bs → l ≡ loading_of m → AreUnmade ks vs l e → IsUnstartedOn f bs m e
unstarted_on f g bs vs ks m l (R.BadInput at) h q w t u = absurd u
unstarted_on f g bs vs ks m l (R.TooSmall needed given) h q w t u =
    unstarted f g (map (argument_word m.kept) bs) vs ks m m l (R.TooSmall needed given) h q w t u
unstarted_on f g bs vs ks m l R.NoMemory h q w t u = u
unstarted_on f g bs vs ks m l R.OutOfRange h q w t u = absurd u
unstarted_on f g bs vs ks m l R.NotReady h q w t u = absurd u
unstarted_on f g bs vs ks m l R.WrongValue h q w t u = absurd u

pub wordless : (f : ℕ) (bs : List FipArgument) (os : List (Option Kept)) (m : Seen) (e : Refusal) → os ≡ m.kept →
    AreNoWords os bs e → IsUnstartedOn f bs m e
wordless f bs os m (R.BadInput at) q u = absurd u
wordless f bs os m (R.TooSmall needed given) q u = absurd u
wordless f bs os m R.NoMemory q u = u
wordless f bs os m R.OutOfRange q u = inr (subst (λ (x : List (Option Kept)). NamesNothing x bs) q u)
wordless f bs os m R.NotReady q u = absurd u
wordless f bs os m R.WrongValue q u = u
