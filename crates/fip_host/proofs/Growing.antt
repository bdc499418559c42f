-- Cells that are made one after another, each with its word.
use Rattle.std.proofs.Common.{◌≡◌, ◌∙◌, ℕ, zero, suc, ◌+◌, ◌<◌, ◌≤◌, List, [], ◌∷◌, ◌++◌, length, take, get_or, refl, sym, ap, subst, append_assoc, arith}
use Rattle.std.specs.Prelude.{replicate}
use Rattle.std.proofs.lemmas.List.{append-nil, take_all, take_more}
use Rattle.fip_machine.specs.cell_store.Made.{Loading}
use Rattle.fip_host.specs.Making.{IsMade, AreMade, HasMade}

pub made_none : (old : List ℕ) (l : Loading) → HasMade [] old old l l
made_none old l = record { more = []; is = sym (append-nil old); made = refl }

made_on : (ks ws : List ℕ) (k w : ℕ) (first mid last : Loading) → AreMade ks ws first mid → IsMade mid last 0 (replicate k 0) w → AreMade (ks ++ k ∷ []) (ws ++ w ∷ []) first last
made_on [] [] k w first mid last h m = (last, subst (λ (l : Loading). IsMade l last 0 (replicate k 0) w) h m, refl)
made_on [] (x ∷ ws) k w first mid last h m = absurd h
made_on (j ∷ ks) [] k w first mid last h m = absurd h
made_on (j ∷ ks) (x ∷ ws) k w first mid last (next, made, rest) m = (next, made, made_on ks ws k w next mid last rest m)

pub made_one : (sizes old now after : List ℕ) (i d w : ℕ) (first mid last : Loading) → i < length sizes → HasMade (take i sizes) old now first mid → IsMade mid last 0 (replicate (get_or sizes i d) 0) w → after ≡ now ++ w ∷ [] → HasMade (take (i + 1) sizes) old after first last
made_one sizes old now after i d w first mid last lt h m e = record {
  more = h.more ++ w ∷ [];
  is = e ∙ ap (λ (xs : List ℕ). xs ++ w ∷ []) h.is ∙ append_assoc old h.more (w ∷ []);
  made = subst (λ (ks : List ℕ). AreMade ks (h.more ++ w ∷ []) first last) (sym (take_more sizes i d lt)) (made_on (take i sizes) h.more (get_or sizes i d) w first mid last h.made m);
}

pub made_all : (sizes old now : List ℕ) (i : ℕ) (first last : Loading) → length sizes ≤ i → HasMade (take i sizes) old now first last → HasMade sizes old now first last
made_all sizes old now i first last le h = subst (λ (ks : List ℕ). HasMade ks old now first last) (take_all i sizes le) h

-- as many words as sizes
pub made_length : (ks ws : List ℕ) (first last : Loading) → AreMade ks ws first last → length ws ≡ length ks
made_length [] [] first last h = refl
made_length [] (w ∷ ws) first last h = absurd h
made_length (k ∷ ks) [] first last h = absurd h
made_length (k ∷ ks) (w ∷ ws) first last (next, made, rest) = let e = made_length ks ws next last rest in omega (arith, e)

-- the first words of many that are 0
pub zeros : (n k : ℕ) → k ≤ n → take {A = ℕ} k (replicate n 0) ≡ replicate k 0
zeros n zero h = refl
zeros zero (suc k) h = absurd (omega (arith, h))
zeros (suc n) (suc k) h = ap (λ (xs : List ℕ). 0 ∷ xs) (zeros n k (omega (arith, h)))
