-- The value of the next parameter, after a comma unless it is the first.
use Rattle.std.proofs.Common.{◌≡◌, ◌∙◌, ◌≤◌, ◌<◌, ℕ, zero, suc, List, [], ◌∷◌, length, drop, refl, sym, ap, subst, arith}
use Rattle.fip_language.specs.Table.{Table}
use Rattle.fip_language.specs.Values.{Value, Values, End, More}
use Rattle.session_lines.specs.session_semantics.Lines.{Symbol, Comma, SignText, symbols}
use Rattle.value_text.specs.Single.{BeginsWith, IsPlaced, IsValueAt}
use Rattle.session_lines.specs.declared.scan.Scanner.{Scanner}
use Rattle.session_lines.specs.Scanned.{left}
use Rattle.session_values.specs.Read.{IsTextOf}
use Rattle.task_lines.specs.Reading.{After, IsAt, IsNext}
use Rattle.session_values.specs.Readable.{IsLine, AreParams}
use Rattle.session_values.proofs.OneValue.{begins_with}

pub placed : (tb : Table) (ty : ℕ) (bytes : List ℕ) (s : Scanner) → IsAt bytes s → IsLine bytes → AreParams tb (ty ∷ []) → IsPlaced tb ty bytes s.at
placed tb ty bytes s at line params = record { sound = params.table; known = params.known.0; within = at.within; short = line.short }

pub moved : (bytes : List ℕ) (old new : Scanner) → new.bytes.now ≡ old.bytes.now → (old.at ≤ length old.bytes.now → new.at ≤ length old.bytes.now) → IsAt bytes old → IsAt bytes new
moved bytes old new same within at = record {
  bytes = same ∙ at.bytes;
  within = subst (λ (xs : List ℕ). new.at ≤ length xs) at.bytes (within (subst (λ (xs : List ℕ). old.at ≤ length xs) (sym at.bytes) at.within));
}

pub left_is : (bytes : List ℕ) (s : Scanner) → IsAt bytes s → left s ≡ symbols (drop s.at bytes)
left_is bytes s at = ap (λ (xs : List ℕ). symbols (drop s.at xs)) at.bytes

pub is_next : (tb : Table) (i ty : ℕ) (bytes : List ℕ) (old mid : Scanner) (p e : ℕ) (v : Value) → IsAt bytes old → IsAt bytes mid → p ≡ mid.at → (i ≡ 0 → mid ≡ old) → (0 < i → SignText Comma (left old) (left mid)) → IsValueAt tb ty bytes mid.at v e → IsNext tb i ty bytes old.at p v e
is_next tb i ty bytes old mid p e v at there is first further value = record {
  within = subst (λ n. n ≤ length bytes) (sym is) there.within;
  first = λ z. is ∙ ap (λ (s : Scanner). s.at) (first z);
  further = λ lt. subst (λ n. SignText Comma (symbols (drop old.at bytes)) (symbols (drop n bytes))) (sym is) (subst (SignText Comma (symbols (drop old.at bytes))) (left_is bytes mid there) (subst (λ cs. SignText Comma cs (left mid)) (left_is bytes old at) (further lt)));
  value = subst (λ n. IsValueAt tb ty bytes n v e) (sym is) value;
}

module _ (tb : Table) (ty : ℕ) (bytes : List ℕ) (line : IsLine bytes) (params : AreParams tb (ty ∷ [])) (old : Scanner) (at : IsAt bytes old) where
  -- no comma comes
  pub no_comma : (i : ℕ) (ks : List ℕ) (vs : Values) → 0 < i → ((rest : List Symbol) → SignText Comma (left old) rest → ⊥) → After i tb (ty ∷ ks) (left old) vs → ⊥
  no_comma zero ks vs lt none h = omega (arith, lt)
  no_comma (suc i) ks End lt none h = absurd h
  no_comma (suc i) ks (More v vs) lt none h = none h.0 h.2

  sign_once : (cs a b : List Symbol) → SignText Comma cs a → SignText Comma cs b → a ≡ b
  sign_once cs a b h k = let x : Comma ∷ a ≡ Comma ∷ b = sym h ∙ k in cc

  -- or no value
  pub no_value : (i : ℕ) (ks : List ℕ) (vs : Values) (mid : Scanner) → IsAt bytes mid → (i ≡ 0 → mid ≡ old) → (0 < i → SignText Comma (left old) (left mid)) → ((v : Value) → BeginsWith tb ty (drop mid.at bytes) v → ⊥) → After i tb (ty ∷ ks) (left old) vs → ⊥
  no_value zero ks End mid there first further none h = absurd h
  no_value zero ks (More v vs) mid there first further none h =
      let same : left old ≡ symbols (drop mid.at bytes) = sym (ap left (first refl)) ∙ left_is bytes mid there in
      none v (begins_with tb (params.table) bytes (line.one) ty mid.at v h.0 (subst (λ cs. IsTextOf tb ty cs v h.0) same h.1))
  no_value (suc i) ks End mid there first further none h = absurd h
  no_value (suc i) ks (More v vs) mid there first further none h =
      let same : h.0 ≡ symbols (drop mid.at bytes) = sign_once (left old) h.0 (left mid) h.2 (further (omega arith)) ∙ left_is bytes mid there in
      none v (begins_with tb (params.table) bytes (line.one) ty mid.at v h.1 (subst (λ cs. IsTextOf tb ty cs v h.1) same h.3))
