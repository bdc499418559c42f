-- The reader's loop: a byte after another.
use Rattle.std.proofs.Common.{◌≡◌, ℕ, zero, suc, ◌+◌, ◌<◌, ◌≤◌, List, [], ◌∷◌, length, drop, get_or, Option, Some, None, Ok, Err, refl, sym, ap, ◌∙◌, subst, arith}
use Rattle.std.proofs.lemmas.List.{drop_more}
use Rattle.fip_language.specs.Prefix.{Outcome, Stopped, end_outcome, or_stop}
use Rattle.derivation_trees.specs.Building.{Built}
use Rattle.derivation_text.specs.declared.error.ByteError.{ByteError}
use Rattle.derivation_text.specs.declared.error.ByteError.TheVariants as B
use Rattle.derivation_text.specs.Machine.{Made, State, flats, step, final}
use Rattle.derivation_text.specs.Reading.{Steps, runs}
use Rattle.fip_language.proofs.Facts.{drop_past as drop_all}

module _ (bs : List ℕ) (s s' : State Built) (at : ℕ) (o : Outcome (List Made)) where
  -- the byte there, and what the machine does with it
  byte_runs : at < length bs → (p : Option (State Built)) → step flats s (get_or bs at 0) ≡ p → runs s (drop at bs) at ≡ or_stop p at (λ s. runs s (drop (at + 1) bs) (at + 1))
  byte_runs lt p e = ap (λ l. runs s l at) (drop_more bs at 0 lt) ∙ ap (λ p. or_stop p at (λ s. runs s (drop (at + 1) bs) (at + 1))) e

  pub byte_taken : (X : Type 0) (x : X) → at < length bs → Steps (Ok x) s' (step flats s (get_or bs at 0)) → runs s (drop at bs) at ≡ o → runs s' (drop (at + 1) bs) (at + 1) ≡ o
  byte_taken X x lt h e = sym (byte_runs lt (Some s') h) ∙ e

  pub byte_refused : (X : Type 0) (b : ByteError) → b ≡ B.Bad → at < length bs → Steps {X = X} (Err b) s' (step flats s (get_or bs at 0)) → runs s (drop at bs) at ≡ o → o ≡ Stopped at
  byte_refused X b f lt h e = sym e ∙ byte_runs lt None (subst (λ b. Steps {X = X} (Err b) s' (step flats s (get_or bs at 0))) f h)

  pub all_taken : (p : Option (List Made)) → length bs ≤ at → p ≡ final s → runs s (drop at bs) at ≡ o → o ≡ end_outcome p at
  all_taken p le h e = sym e ∙ ap (λ l. runs s l at) (drop_all bs at le) ∙ ap (λ p. end_outcome p at) (sym h)
