-- What is kept of label maps, as one after another is gone through.
use Rattle.std.proofs.Common.{◌≡◌, ℕ, zero, suc, ◌+◌, ◌<◌, ◌⊎◌, inl, inr, List, [], ◌∷◌, ◌++◌, length, get_or, map, refl, sym, ap, ◌∙◌, subst, arith}
use Rattle.std.specs.Prelude.{Some, slice_get}
use Rattle.cell_code.specs.Plain.{LabelMap, plain_label}
use Rattle.cell_code.specs.declared.kind.Label.{Label}
use Rattle.kind_domain.specs.declared.asked.Asked.{Asked}
use Rattle.kind_domain.specs.Busy.{IsAsked}
use Rattle.kind_domain.specs.Busy.{AreAsked}

pub some_map : (a b : LabelMap) → Some a ≡ Some b → a ≡ b
some_map a b e = cc

some_asked : (a b : Asked) → Some a ≡ Some b → a ≡ b
some_asked a b e = cc

record IsLast (xs : List Asked) (x : Asked) (l : ℕ) (a : Asked) : Type 0 where
  pub place : l ≡ length xs
  pub is : x ≡ a

got : (xs : List Asked) (x : Asked) (l : ℕ) (a : Asked) → slice_get (xs ++ x ∷ []) l ≡ Some a →
    (slice_get xs l ≡ Some a) ⊎ IsLast xs x l a
got [] x zero a e = inr (record { place = refl; is = some_asked x a e })
got [] x (suc l) a e = absurd (cc)
got (y ∷ xs) x zero a e = inl e
got (y ∷ xs) x (suc l) a e =
    elim (got xs x l a e) [
      | inl h ↦ inl h
      | inr h ↦ inr (record { place = ap suc h.place; is = h.is })
    ]

pub asked_more : (maps : List LabelMap) (xs : List Asked) (x : Asked) (m : LabelMap) → AreAsked maps xs →
    slice_get maps (length xs) ≡ Some m → (length m.kinds < 65536 → IsAsked m.kinds x) → AreAsked maps (xs ++ x ∷ [])
asked_more maps xs x m h e f l n a g i s =
    elim (got xs x l a i) [
      | inl j ↦ h l n a g j s
      | inr j ↦ (let k = some_map m n (sym e ∙ ap (slice_get maps) (sym j.place) ∙ g) in
          subst (IsAsked n.kinds) j.is (subst (λ z. length z.kinds < 65536 → IsAsked z.kinds x) k f s))
    ]

pub long_one : (xs : List Asked) (x : Asked) → length (xs ++ x ∷ []) ≡ length xs + 1
long_one [] x = omega arith
long_one (y ∷ xs) x = let h = long_one xs x in omega arith

pub got_asked : (xs : List Asked) (i : ℕ) (x d : Asked) → i < length xs → x ≡ get_or xs i d → slice_get xs i ≡ Some x
got_asked [] i x d h e = absurd (omega arith)
got_asked (y ∷ xs) zero x d h e = ap (λ z. Some z) (sym e)
got_asked (y ∷ xs) (suc i) x d h e = got_asked xs i x d (omega arith) e

pub label_get : (ls : List Label) (i : ℕ) (x d : Label) → i < length ls → x ≡ get_or ls i d →
    slice_get (map plain_label ls) i ≡ Some (plain_label x)
label_get [] i x d h e = absurd (omega arith)
label_get (y ∷ ls) zero x d h e = ap (λ z. Some (plain_label z)) (sym e)
label_get (y ∷ ls) (suc i) x d h e = label_get ls i x d (omega arith) e
