-- The cells of credits alone: those after no value.
use Rattle.std.proofs.Common.{◌≡◌, ◌⊎◌, inl, inr, ℕ, ◌+◌, ◌-◌, ◌≤◌, List, [], ◌∷◌, ◌++◌, length, refl, sym, ap, ◌∙◌, subst, arith}
use Rattle.std.specs.Prelude.{Err}
use Rattle.fip_language.specs.Values.{Values, End, More}
use Rattle.fip_language.specs.Store.{Parts, NoParts, MoreParts, values_of, words_of, count, uses_of_all}
use Rattle.cell_store.specs.Made.{Loading}
use Rattle.value_text.specs.Building.{IsBuilt, IsCrediting}
use Rattle.value_text.specs.Loaded.{wanted, words_up_to, needed, free_in, cell_words}
use Rattle.value_text.specs.Single.{AreCreditsMade}
use Rattle.value_text.specs.Alone.{error_by}
use Rattle.value_text.specs.declared.build.Stopped as B
use Rattle.value_text.specs.declared.build.Stopped.TheVariants as S
use Rattle.value_text.specs.declared.single.MakeError.TheVariants as M
use Rattle.value_text.proofs.Built.{taken_starts}
use Rattle.value_text.proofs.Order.{lies_starts}
use Rattle.value_text.proofs.Whole.{nothing_left}

-- no value is built at first
pub nothing_built : (want : ℕ → ℕ) (first : Loading) (ws : List ℕ) → length first.released ≡ length first.cells → ws ≡ [] → IsBuilt want first first End ws
nothing_built want first ws flags none = record {
  trees = NoParts;
  values = refl;
  words = none;
  held = tt;
  taken = taken_starts want (λ k. 0) (λ p. 0) first first refl flags (λ k. refl) (λ q. refl);
  order = λ free. lies_starts first first End ws refl refl none;
}

no_trees : (xs : Parts) → values_of xs ≡ End → xs ≡ NoParts
no_trees NoParts e = refl
no_trees (MoreParts x xs) e = cc

pub credits_made : (ks : List ℕ) (first now : Loading) (ws : List ℕ) → IsCrediting ks (wanted ks End) first now End ws → AreCreditsMade ks first now ws
credits_made ks first now ws h =
    let none : h.trees ≡ NoParts = no_trees h.trees h.values in
    let l = (h.taken).left in
    let zero = nothing_left 16 (wanted ks End) (free_in now) in
    record {
      places = h.places;
      zero = h.zero;
      named = h.words ∙ ap (λ xs. words_of xs ++ cell_words h.places) none;
      once = λ p. let o = (h.taken).once p in let u = ap (uses_of_all p) none in omega (arith, o, u);
      kept = (h.taken).kept;
      left = omega (arith, l, zero);
      free = λ k le. (let f = (h.taken).free k le in omega (arith, f));
    }

-- Only memory can be wanting where there is room.
pub only_memory : (e : B.Stopped) → ((k : ℕ) → e ≡ S.BadValue k → ⊥) → (e ≡ S.Full → ⊥) → error_by e ≡ M.NoMemory
only_memory (S.BadValue k) none full = absurd (none k refl)
only_memory S.Full none full = absurd (full refl)
only_memory S.NoMemory none full = refl
