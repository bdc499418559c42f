-- The types of the examples are sound, and those with bool turned aren't.
use Rattle.std.proofs.Common.{◌≡◌, ℕ, zero, suc, ◌<◌, ◌≤◌, List, [], ◌∷◌, length, Some, slice_get, get_or, refl, sym, ap, ◌∙◌, subst, arith}
use Rattle.std.specs.Prelude.{codes}
use Rattle.std.proofs.lemmas.Option.{same_Some, none-some}
use Rattle.cell_code.specs.fip_language.Table.{Table, Shape}
use Rattle.cell_code.specs.fip_language.Values.{Node, End}
use Rattle.cell_code.specs.Plain.{PlainFunction}
use Rattle.code_rules.specs.Tables.{bare, IsSoundShape, IsSoundType, AreSoundTables}
use Rattle.code_rules.specs.Example.{ints, types, code_of}

sound_bare : (w : Table) (name : List ℕ) → IsSoundShape w (bare name)
sound_bare w name = record { few = omega arith; typed = λ i t e. absurd (none-some t e) }

abbrev cons : Shape
cons = record { name = codes "Cons"; fields = 0 ∷ 2 ∷ [] }

cons_typed : (i t : ℕ) → slice_get cons.fields i ≡ Some t → t ≤ 2
cons_typed zero t e = (let k = same_Some 0 t e in omega (arith, k))
cons_typed (suc zero) t e = (let k = same_Some 2 t e in omega (arith, k))
cons_typed (suc (suc i)) t e = absurd (none-some t e)

sound_cons : IsSoundShape types cons
sound_cons = record { few = omega arith; typed = cons_typed }

-- a type of two constructors
two_sound : (w : Table) (a b : Shape) → IsSoundShape w a → IsSoundShape w b → (k : ℕ) (s : Shape) → slice_get (a ∷ b ∷ []) k ≡ Some s → IsSoundShape w s
two_sound w a b p q zero s e = subst (IsSoundShape w) (same_Some a s e) p
two_sound w a b p q (suc zero) s e = subst (IsSoundShape w) (same_Some b s e) q
two_sound w a b p q (suc (suc k)) s e = absurd (none-some s e)

two_apart : (a b : Shape) → (a.name ≡ b.name → ⊥) → (k l : ℕ) (r s : Shape) → slice_get (a ∷ b ∷ []) k ≡ Some r → slice_get (a ∷ b ∷ []) l ≡ Some s → r.name ≡ s.name → k ≡ l
two_apart a b other zero zero r s e g h = refl
two_apart a b other zero (suc zero) r s e g h = absurd (other (ap (λ (x : Shape). x.name) (same_Some a r e) ∙ (h ∙ sym (ap (λ (x : Shape). x.name) (same_Some b s g)))))
two_apart a b other zero (suc (suc l)) r s e g h = absurd (none-some s g)
two_apart a b other (suc zero) zero r s e g h = absurd (other (ap (λ (x : Shape). x.name) (same_Some a s g) ∙ (sym h ∙ sym (ap (λ (x : Shape). x.name) (same_Some b r e)))))
two_apart a b other (suc zero) (suc zero) r s e g h = refl
two_apart a b other (suc zero) (suc (suc l)) r s e g h = absurd (none-some s g)
two_apart a b other (suc (suc k)) l r s e g h = absurd (none-some r e)

-- names that begin with other bytes
begin_apart : (x y : ℕ) (xs ys : List ℕ) → (x ≡ y → ⊥) → x ∷ xs ≡ y ∷ ys → ⊥
begin_apart x y xs ys other p = other (ap (λ zs. get_or zs 0 0) p)

bool_sound : IsSoundType types 1
bool_sound = record {
  some = omega arith;
  shapes = two_sound types (bare (codes "False")) (bare (codes "True")) (sound_bare types (codes "False")) (sound_bare types (codes "True"));
  apart = two_apart (bare (codes "False")) (bare (codes "True")) (begin_apart 70 84 (codes "alse") (codes "rue") (λ e. omega (arith, e)));
  value = (Node 0 End, (_, refl, tt));
}

ints_sound : IsSoundType types 2
ints_sound = record {
  some = omega arith;
  shapes = two_sound types (bare (codes "Nil")) cons (sound_bare types (codes "Nil")) sound_cons;
  apart = two_apart (bare (codes "Nil")) cons (begin_apart 78 67 (codes "il") (codes "ons") (λ e. omega (arith, e)));
  value = (Node 0 End, (_, refl, tt));
}

types_sound : (t : ℕ) → 0 < t → t ≤ 2 → IsSoundType types t
types_sound zero p q = absurd (omega (arith, p))
types_sound (suc zero) p q = bool_sound
types_sound (suc (suc zero)) p q = ints_sound
types_sound (suc (suc (suc t))) p q = absurd (omega (arith, q))

one_named : (f : PlainFunction) (m n : ℕ) (g h : PlainFunction) → slice_get (f ∷ []) m ≡ Some g → slice_get (f ∷ []) n ≡ Some h → 0 < length g.name → g.name ≡ h.name → m ≡ n
one_named f zero zero g h a b l e = refl
one_named f zero (suc n) g h a b l e = absurd (none-some h b)
one_named f (suc m) n g h a b l e = absurd (none-some g a)

pub are_sound : (f : PlainFunction) → AreSoundTables (code_of types f)
are_sound f = record {
  few_types = omega arith;
  few_functions = omega arith;
  bool = refl;
  types = types_sound;
  names = one_named f;
}

pub turned_is_not : (f : PlainFunction) → AreSoundTables (code_of ((bare (codes "True") ∷ bare (codes "False") ∷ []) ∷ ints ∷ []) f) → ⊥
turned_is_not f t = begin_apart 84 70 (codes "rue") (codes "alse") (λ e. omega (arith, e)) (ap first_name t.bool)
  where
    first_name : List Shape → List ℕ
    first_name [] = []
    first_name (s ∷ ss) = s.name
