-- One value in a line, and counts of cells.
-- Idea: what was read so far, and what could be there as a whole, are one: a text begins with one value of a type.
use Rattle.std.proofs.Common.{◌≡◌, ◌∙◌, ◌≤◌, ◌<◌, ◌+◌, ◌-◌, ℕ, zero, suc, List, [], ◌∷◌, ◌++◌, length, length-append, map, take, drop, get_or, append_assoc, append-nil, refl, sym, ap, subst, arith}
use Rattle.std.proofs.Math.Seq.{drop-cons}
use Rattle.std.proofs.lemmas.List.{length-map, take-append-drop}
use Rattle.fip_language.specs.Character as C
use Rattle.fip_language.specs.Character.{Character, characters}
use Rattle.fip_language.specs.SoundTable.{IsSoundTable}
use Rattle.fip_language.specs.Table.{Table}
use Rattle.fip_language.specs.Values.{Value, Values, End, More, cells, cells_of_all}
use Rattle.fip_language.specs.ValueText.{ValueText}
use Rattle.session_lines.specs.session_semantics.Lines.{Symbol, Close, Comma, WrittenText, SignText, symbol, symbols}
use Rattle.value_text.specs.Machine.{join, snoc}
use Rattle.value_text.specs.Single.{BeginsWith, IsValueAt}
use Rattle.value_text.specs.declared.counts.Counts.{Counts}
use Rattle.value_text.proofs.OneValue.{value_same}
use Rattle.value_text.proofs.Tables.{is_table}
use Rattle.session_values.specs.Read.{IsTextOf, Adds}
use Rattle.session_values.proofs.Symbols.{chr, IsOneLine, chars_are, one_line_drop, are_read, Suffix, skip_chr}
use Rattle.session_values.proofs.Bridge.{NotOpen, value_written, value_spelt}
pub use Rattle.value_text.proofs.Counted.{cells_snoc, join-end as join_end}

-- ---- suffixes of one list

suffix_same : (fa fb a b : List Symbol) → fa ++ a ≡ fb ++ b → length a ≡ length b → a ≡ b
suffix_same [] [] a b e n = e
suffix_same [] (y ∷ fb) a b e n = absurd (let l = ap length e in let m = length-append fb b in omega (arith, l, m, n))
suffix_same (x ∷ fa) [] a b e n = absurd (let l = ap length e in let m = length-append fa a in omega (arith, l, m, n))
suffix_same (x ∷ fa) (y ∷ fb) a b e n = let t : fa ++ a ≡ fb ++ b = cc in suffix_same fa fb a b t n

abbrev empty : List ℕ
empty = []

none_dropped : (n : ℕ) → empty ≡ drop n empty
none_dropped zero = refl
none_dropped (suc n) = refl

drop_further : (p n : ℕ) (bytes : List ℕ) → drop n (drop p bytes) ≡ drop (p + n) bytes
drop_further zero n bytes = ap (λ k. drop k bytes) (let z : n ≡ 0 + n = omega arith in z)
drop_further (suc p) zero [] = none_dropped (suc p + 0)
drop_further (suc p) (suc n) [] = none_dropped (suc p + suc n)
drop_further (suc p) n (b ∷ bytes) = drop_further p n bytes ∙ ap (λ k. drop k (b ∷ bytes)) (let z : suc (p + n) ≡ suc p + n = omega arith in z)

symbols_join : (a b : List ℕ) → symbols (a ++ b) ≡ symbols a ++ symbols b
symbols_join [] b = refl
symbols_join (x ∷ a) b = ap (λ xs. symbol x ∷ xs) (symbols_join a b)

pub later_left : (bytes : List ℕ) (p e : ℕ) → p ≤ e → Suffix (symbols (drop e bytes)) (symbols (drop p bytes))
later_left bytes p e le =
    let n : p + (e - p) ≡ e = omega (arith, le) in
    let parts : take (e - p) (drop p bytes) ++ drop e bytes ≡ drop p bytes = ap (λ xs. take (e - p) (drop p bytes) ++ xs) (sym (drop_further p (e - p) bytes ∙ ap (λ k. drop k bytes) n)) ∙ take-append-drop (e - p) (drop p bytes) in
    (symbols (take (e - p) (drop p bytes)), ap symbols (sym parts) ∙ symbols_join (take (e - p) (drop p bytes)) (drop e bytes))

as_long : (a b : List Symbol) → map chr a ≡ map chr b → length a ≡ length b
as_long a b e = sym (length-map a chr) ∙ ap length e ∙ length-map b chr

-- ---- one value

-- a sign comes next, and no (
pub sign_not_open : (cs rest : List Symbol) (s : Symbol) (c : Character) → SignText s cs rest → chr s ≡ c → (c ≡ C.Open → ⊥) → NotOpen (map chr cs)
sign_not_open cs rest s c e is not inner f =
    let x : chr s ∷ map chr rest ≡ C.Open ∷ inner = sym (skip_chr cs ∙ ap (map chr) e) ∙ f in
    let y : chr s ≡ C.Open = cc in
    not (sym is ∙ y)

module _ (tb : Table) (sound : IsSoundTable tb) (bytes : List ℕ) (one : IsOneLine bytes) where
  abbrev at_place : ℕ → List Symbol
  at_place p = symbols (drop p bytes)

  chars_at : (p : ℕ) → characters (drop p bytes) ≡ map chr (at_place p)
  chars_at p = chars_are (drop p bytes) (one_line_drop bytes p one)

  pub as_symbols : (k p e : ℕ) (v : Value) → IsValueAt tb k bytes p v e → ValueText tb k (map chr (at_place p)) v (map chr (at_place e))
  as_symbols k p e v h = subst (λ cs. ValueText tb k cs v (map chr (at_place e))) (chars_at p) (subst (λ cs. ValueText tb k (characters (drop p bytes)) v cs) (chars_at e) h.text)

  pub text_of : (k p e : ℕ) (v : Value) → IsValueAt tb k bytes p v e → NotOpen (map chr (at_place e)) → IsTextOf tb k (at_place p) v (at_place e)
  text_of k p e v h not =
      let w = value_written tb sound k (at_place p) v (map chr (at_place e)) (are_read (drop p bytes)) (as_symbols k p e v h) (λ c z. not) in
      let left = later_left bytes p e h.forward in
      let same : w.rs ≡ at_place e = suffix_same w.left.0 left.0 w.rs (at_place e) (sym w.left.1 ∙ left.1) (as_long w.rs (at_place e) (sym w.rest_is)) in
      (w.w, subst (λ r. WrittenText (at_place p) w.w r) same w.text, w.value)

  -- what is written there is what was read
  pub same_value : (k p e : ℕ) (v u : Value) (after : List Symbol) → IsValueAt tb k bytes p v e → IsTextOf tb k (at_place p) u after → (u ≡ v) × (after ≡ at_place e)
  same_value k p e v u after h t =
      let s = value_spelt tb k (at_place p) t.0 u after (are_read (drop p bytes)) t.1 t.2 in
      let both = value_same tb (is_table tb sound) k (map chr (at_place p)) v u (map chr (at_place e)) (map chr after) (as_symbols k p e v h) s.1 in
      let left = later_left bytes p e h.forward in
      (sym both.0, suffix_same s.0.0 left.0 after (at_place e) (sym s.0.1 ∙ left.1) (as_long after (at_place e) (sym both.1)))

  pub begins_with : (k p : ℕ) (u : Value) (after : List Symbol) → IsTextOf tb k (at_place p) u after → BeginsWith tb k (drop p bytes) u
  begins_with k p u after t =
      let s = value_spelt tb k (at_place p) t.0 u after (are_read (drop p bytes)) t.1 t.2 in
      (map chr after, subst (λ cs. ValueText tb k cs u (map chr after)) (sym (chars_at p)) s.1)

-- ---- values after values

pub join_snoc : (a : Values) (v : Value) (b : Values) → join (snoc a v) b ≡ join a (More v b)
join_snoc End v b = refl
join_snoc (More x a) v b = ap (More x) (join_snoc a v b)

pub adds_none : (c : Counts) (more : ℕ → ℕ) → ((k : ℕ) → more k ≡ 0) → Adds c c more
adds_none c more h k le few = let z = h k in omega (arith, z)

pub adds_both : (a b c : Counts) (f g more : ℕ → ℕ) → ((k : ℕ) → more k ≡ f k + g k) → Adds a b f → Adds b c g → Adds a c more
adds_both a b c f g more e h i k le few =
    let z = e k in
    let x = h k le (omega (arith, z, few)) in
    let y = i k le (omega (arith, z, x, few)) in
    omega (arith, x, y, z)
