-- A value as it is written is a value of its type's text, and the other way round.
use Rattle.std.proofs.Common.{◌≡◌, ◌⊎◌, inl, inr, ◌∙◌, ◌≤◌, ◌<◌, ℕ, zero, suc, Bool, true, false, List, [], ◌∷◌, ◌++◌, length, length-append, map, refl, sym, ap, subst, arith}
use Rattle.std.proofs.lemmas.List.{length-map}
use Rattle.std.specs.Prelude.{ℤ, FitsSigned, Some, slice_get}
use Rattle.std.specs.Int.{w64}
use Rattle.fip_language.specs.Character as C
use Rattle.fip_language.specs.Character.{Character, characters, is_upper_name}
use Rattle.fip_language.specs.SoundTable.{IsSoundTable}
use Rattle.fip_language.specs.Table.{Shape, Table, shapes}
use Rattle.fip_language.specs.Values.{Value, Int, Node, Values, End, More}
use Rattle.fip_language.specs.ValueText as V
use Rattle.fip_language.specs.ValueText.{bound, int_of, Digits, IntText, ValueText, FieldsText, MoreText}
use Rattle.session_lines.specs.session_semantics.Lines.{Symbol, Blank, Open, Close, Comma, Equals, Question, Minus, Underscore, Digit, Small, Capital, Other}
use Rattle.session_lines.specs.session_semantics.Lines.{skip, word, following, number, after_number, signed, DigitsText, NumberText, IsOpened, SignText}
use Rattle.session_lines.specs.session_semantics.Lines.{Written, Number, Named, Parts, NoParts, MoreParts, WrittenText, PartsText, FurtherText, Fresh, BeginsCapital}
use Rattle.session_lines.specs.session_semantics.Typed.{IsValue, AreValues}
use Rattle.session_semantics.proofs.OneForm.{given_once, number_is_no_name}
use Rattle.value_text.proofs.Runs.{int_fits}
use Rattle.value_text.proofs.Tables.{same_bytes, upper_bytes}
use Rattle.session_values.proofs.Symbols.{chr, AreRead, Suffix, all_left, one_less, less, read_left, skip_left, after_left, number_left}
use Rattle.session_values.proofs.Symbols.{skip_chr, following_chr, number_chr, after_chr, names_same, begins_capital, is_open, is_close, is_comma}

-- ---- from the text of a type to what is written

signs_same : (neg : Bool) (n : ℕ) → int_of neg n ≡ signed neg n
signs_same true n = refl
signs_same false n = refl

record IsNumber (ss : List Symbol) (i : ℤ) (rest : List Character) : Type 0 where
  rs : List Symbol
  left : Suffix rs ss
  rest_is : rest ≡ map chr rs
  text : NumberText ss i rs
  fits : FitsSigned w64 i

record AreDigits (neg : Bool) (ss : List Symbol) (i : ℤ) (rest : List Character) : Type 0 where
  rs : List Symbol
  left : Suffix rs ss
  rest_is : rest ≡ map chr rs
  text : DigitsText neg ss i rs
  fits : FitsSigned w64 i

digits_written : (neg : Bool) (ss : List Symbol) (i : ℤ) (rest : List Character) → Digits neg (map chr ss) i rest → AreDigits neg ss i rest
digits_written neg (Digit d ∷ ss) i rest h =
    let n : V.number d (map chr ss) ≡ number d ss = number_chr d ss in
    record {
      rs = after_number ss;
      left = one_less (Digit d) ss (after_number ss) (number_left ss);
      rest_is = h.2 ∙ after_chr ss;
      text = (h.1 ∙ ap (int_of neg) n ∙ signs_same neg (number d ss), refl);
      fits = subst (FitsSigned w64) (sym h.1) (int_fits neg (V.number d (map chr ss)) h.0);
    }
digits_written neg [] i rest h = absurd h
digits_written neg (Blank ∷ ss) i rest h = absurd h
digits_written neg (Open ∷ ss) i rest h = absurd h
digits_written neg (Close ∷ ss) i rest h = absurd h
digits_written neg (Comma ∷ ss) i rest h = absurd h
digits_written neg (Equals ∷ ss) i rest h = absurd h
digits_written neg (Question ∷ ss) i rest h = absurd h
digits_written neg (Minus ∷ ss) i rest h = absurd h
digits_written neg (Underscore ∷ ss) i rest h = absurd h
digits_written neg (Small b ∷ ss) i rest h = absurd h
digits_written neg (Capital b ∷ ss) i rest h = absurd h
digits_written neg (Other ∷ ss) i rest h = absurd h

number_written : (ss : List Symbol) (i : ℤ) (rest : List Character) → IntText (map chr ss) i rest → IsNumber ss i rest
number_written (Minus ∷ ss) i rest h =
    let d = digits_written true ss i rest h in
    record { rs = d.rs; left = one_less Minus ss d.rs d.left; rest_is = d.rest_is; text = d.text; fits = d.fits }
number_written (Digit e ∷ ss) i rest h =
    let d = digits_written false (Digit e ∷ ss) i rest h in
    record { rs = d.rs; left = d.left; rest_is = d.rest_is; text = d.text; fits = d.fits }
number_written [] i rest h = absurd h
number_written (Blank ∷ ss) i rest h = absurd h
number_written (Open ∷ ss) i rest h = absurd h
number_written (Close ∷ ss) i rest h = absurd h
number_written (Comma ∷ ss) i rest h = absurd h
number_written (Equals ∷ ss) i rest h = absurd h
number_written (Question ∷ ss) i rest h = absurd h
number_written (Underscore ∷ ss) i rest h = absurd h
number_written (Small b ∷ ss) i rest h = absurd h
number_written (Capital b ∷ ss) i rest h = absurd h
number_written (Other ∷ ss) i rest h = absurd h

-- no ( comes next
abbrev pub NotOpen : List Character → Type 0
NotOpen rest = (inner : List Character) → V.skip rest ≡ C.Open ∷ inner → ⊥

opened_sign : (ss : List Symbol) → IsOpened (skip ss) → (rs : List Symbol) × (skip ss ≡ Open ∷ rs)
opened_sign ss h = by (skip ss) h
  where
    by : (ts : List Symbol) → IsOpened ts → (rs : List Symbol) × (ts ≡ Open ∷ rs)
    by (Open ∷ ts) h = (ts, refl)
    by [] h = absurd h
    by (Blank ∷ ts) h = absurd h
    by (Close ∷ ts) h = absurd h
    by (Comma ∷ ts) h = absurd h
    by (Equals ∷ ts) h = absurd h
    by (Question ∷ ts) h = absurd h
    by (Minus ∷ ts) h = absurd h
    by (Underscore ∷ ts) h = absurd h
    by (Digit d ∷ ts) h = absurd h
    by (Small b ∷ ts) h = absurd h
    by (Capital b ∷ ts) h = absurd h
    by (Other ∷ ts) h = absurd h

pub never_opened : (ss : List Symbol) → NotOpen (map chr ss) → IsOpened (skip ss) → ⊥
never_opened ss h k =
    let o = opened_sign ss k in
    h (map chr o.0) (skip_chr ss ∙ ap (map chr) o.1)

comma_not_open : (rest next : List Character) → V.skip rest ≡ C.Comma ∷ next → NotOpen rest
comma_not_open rest next e inner f = let x = sym e ∙ f in cc

close_not_open : (rest next : List Character) → V.skip rest ≡ C.Close ∷ next → NotOpen rest
close_not_open rest next e inner f = let x = sym e ∙ f in cc

pub record IsWritten (tb : Table) (k : ℕ) (ss : List Symbol) (v : Value) (rest : List Character) : Type 0 where
  pub w : Written
  pub rs : List Symbol
  pub left : Suffix rs ss
  pub rest_is : rest ≡ map chr rs
  pub text : WrittenText ss w rs
  pub value : IsValue tb k w v

record AreFields (tb : Table) (ks : List ℕ) (ss : List Symbol) (vs : Values) (rest : List Character) : Type 0 where
  ws : Parts
  rs : List Symbol
  left : Suffix rs ss
  rest_is : rest ≡ map chr rs
  text : PartsText ss ws rs
  values : AreValues tb ks ws vs

record AreMore (tb : Table) (ks : List ℕ) (ss : List Symbol) (vs : Values) (rest : List Character) : Type 0 where
  ws : Parts
  rs : List Symbol
  left : Suffix rs ss
  rest_is : rest ≡ map chr rs
  text : FurtherText ss ws rs
  values : AreValues tb ks ws vs

more_not_open : (tb : Table) (ks : List ℕ) (after : List Character) (vs : Values) (rest : List Character) → MoreText tb ks after vs rest → NotOpen after
more_not_open tb [] after End rest h = close_not_open after rest h
more_not_open tb [] after (More v vs) rest h = absurd h
more_not_open tb (k ∷ ks) after End rest h = absurd h
more_not_open tb (k ∷ ks) after (More v vs) rest h = comma_not_open after h.0 h.2

module _ (tb : Table) (sound : IsSoundTable tb) where
  mutual
    -- Only after a constructor without fields it matters that no ( comes.
    pub value_written : (k : ℕ) (ss : List Symbol) (v : Value) (rest : List Character) → AreRead ss → ValueText tb k (map chr ss) v rest → ((c : ℕ) → v ≡ Node c End → NotOpen rest) → IsWritten tb k ss v rest
    value_written zero ss (Int i) rest r h not =
        let n = number_written (skip ss) i rest (subst (λ cs. IntText cs i rest) (skip_chr ss) h) in
        record { w = Number i; rs = n.rs; left = less ss (skip ss) n.rs (skip_left ss) n.left; rest_is = n.rest_is; text = n.text; value = (refl, n.fits) }
    value_written zero ss (Node c vs) rest r h not = absurd h
    value_written (suc t) ss (Int i) rest r h not = absurd h
    value_written (suc t) ss (Node c vs) rest r h not =
        let s = h.0 in
        let ts = skip ss in
        let rt = read_left ss ts (skip_left ss) r in
        let n = names_same ts rt in
        let upper = sound.names t c s h.1 in
        let named : word ts ≡ s.name = same_bytes (word ts) s.name n.bytes (upper_bytes s.name upper) (sym n.same ∙ ap V.name_of (sym (skip_chr ss)) ∙ h.2) in
        let rest_text : FieldsText tb s.fields (map chr (following ts)) vs rest = subst (λ cs. FieldsText tb s.fields cs vs rest) (ap V.after_name (skip_chr ss) ∙ following_chr ts) h.3 in
        let rb = read_left ts (following ts) (after_left ts) rt in
        let f = fields_written s.fields (following ts) vs rest rb rest_text (λ e. not c (ap (Node c) e)) in
        record {
          w = Named s.name f.ws;
          rs = f.rs;
          left = less ss ts f.rs (skip_left ss) (less ts (following ts) f.rs (after_left ts) f.left);
          rest_is = f.rest_is;
          text = (begins_capital ts rt (ap is_upper_name named ∙ upper), sym named, f.text);
          value = (s, h.1, refl, f.values);
        }

    fields_written : (ks : List ℕ) (ss : List Symbol) (vs : Values) (rest : List Character) → AreRead ss → FieldsText tb ks (map chr ss) vs rest → (vs ≡ End → NotOpen rest) → AreFields tb ks ss vs rest
    fields_written [] ss End rest r h not = record {
      ws = NoParts;
      rs = ss;
      left = all_left ss;
      rest_is = sym h;
      text = (never_opened ss (subst NotOpen (sym h) (not refl)), refl);
      values = tt;
    }
    fields_written [] ss (More v vs) rest r h not = absurd h
    fields_written (k ∷ ks) ss End rest r h not = absurd h
    fields_written (k ∷ ks) ss (More v vs) rest r h not =
        let o = is_open (skip ss) h.0 (sym (skip_chr ss) ∙ h.2) in
        let inner = o.0 in
        let ri = (subst AreRead o.1 (read_left ss (skip ss) (skip_left ss) r)).1 in
        let x = value_written k inner v h.1 ri (subst (λ cs. ValueText tb k cs v h.1) o.2 h.3) (λ c e. more_not_open tb ks h.1 vs rest h.4) in
        let ra = read_left inner x.rs x.left ri in
        let m = more_written ks x.rs vs rest ra (subst (λ cs. MoreText tb ks cs vs rest) x.rest_is h.4) in
        record {
          ws = MoreParts x.w m.ws;
          rs = m.rs;
          left = less ss (skip ss) m.rs (skip_left ss) (subst (Suffix m.rs) (sym o.1) (one_less Open inner m.rs (less inner x.rs m.rs x.left m.left)));
          rest_is = m.rest_is;
          text = (inner, x.rs, o.1, x.text, m.text);
          values = (x.value, m.values);
        }

    more_written : (ks : List ℕ) (ss : List Symbol) (vs : Values) (rest : List Character) → AreRead ss → MoreText tb ks (map chr ss) vs rest → AreMore tb ks ss vs rest
    more_written [] ss End rest r h =
        let o = is_close (skip ss) rest (sym (skip_chr ss) ∙ h) in
        record {
          ws = NoParts;
          rs = o.0;
          left = less ss (skip ss) o.0 (skip_left ss) (subst (Suffix o.0) (sym o.1) (one_less Close o.0 o.0 (all_left o.0)));
          rest_is = o.2;
          text = o.1;
          values = tt;
        }
    more_written [] ss (More v vs) rest r h = absurd h
    more_written (k ∷ ks) ss End rest r h = absurd h
    more_written (k ∷ ks) ss (More v vs) rest r h =
        let o = is_comma (skip ss) h.0 (sym (skip_chr ss) ∙ h.2) in
        let next = o.0 in
        let ri = (subst AreRead o.1 (read_left ss (skip ss) (skip_left ss) r)).1 in
        let x = value_written k next v h.1 ri (subst (λ cs. ValueText tb k cs v h.1) o.2 h.3) (λ c e. more_not_open tb ks h.1 vs rest h.4) in
        let ra = read_left next x.rs x.left ri in
        let m = more_written ks x.rs vs rest ra (subst (λ cs. MoreText tb ks cs vs rest) x.rest_is h.4) in
        record {
          ws = MoreParts x.w m.ws;
          rs = m.rs;
          left = less ss (skip ss) m.rs (skip_left ss) (subst (Suffix m.rs) (sym o.1) (one_less Comma next m.rs (less next x.rs m.rs x.left m.left)));
          rest_is = m.rest_is;
          text = (next, x.rs, o.1, x.text, m.text);
          values = (x.value, m.values);
        }

-- ---- and back

fits_bound : (neg : Bool) (n : ℕ) → FitsSigned w64 (int_of neg n) → n ≤ bound neg
fits_bound false n h = omega (arith, h)
fits_bound true zero h = omega arith
fits_bound true (suc n) h = omega (arith, h)

record IsSpelt (tb : Table) (k : ℕ) (ss : List Symbol) (v : Value) (rs : List Symbol) : Type 0 where
  pub left : Suffix rs ss
  pub text : ValueText tb k (map chr ss) v (map chr rs)

digits_spelt : (neg : Bool) (ss : List Symbol) (i : ℤ) (rs : List Symbol) → DigitsText neg ss i rs → FitsSigned w64 i → Suffix rs ss × Digits neg (map chr ss) i (map chr rs)
digits_spelt neg (Digit d ∷ ss) i rs h fits =
    let n : V.number d (map chr ss) ≡ number d ss = number_chr d ss in
    let is : i ≡ int_of neg (V.number d (map chr ss)) = h.0 ∙ sym (signs_same neg (number d ss)) ∙ ap (int_of neg) (sym n) in (
      subst (λ r. Suffix r (Digit d ∷ ss)) (sym h.1) (one_less (Digit d) ss (after_number ss) (number_left ss)),
      (fits_bound neg (V.number d (map chr ss)) (subst (FitsSigned w64) is fits), is, ap (map chr) h.1 ∙ sym (after_chr ss)),
    )
digits_spelt neg [] i rs h fits = absurd h
digits_spelt neg (Blank ∷ ss) i rs h fits = absurd h
digits_spelt neg (Open ∷ ss) i rs h fits = absurd h
digits_spelt neg (Close ∷ ss) i rs h fits = absurd h
digits_spelt neg (Comma ∷ ss) i rs h fits = absurd h
digits_spelt neg (Equals ∷ ss) i rs h fits = absurd h
digits_spelt neg (Question ∷ ss) i rs h fits = absurd h
digits_spelt neg (Minus ∷ ss) i rs h fits = absurd h
digits_spelt neg (Underscore ∷ ss) i rs h fits = absurd h
digits_spelt neg (Small b ∷ ss) i rs h fits = absurd h
digits_spelt neg (Capital b ∷ ss) i rs h fits = absurd h
digits_spelt neg (Other ∷ ss) i rs h fits = absurd h

number_spelt : (ss : List Symbol) (i : ℤ) (rs : List Symbol) → NumberText ss i rs → FitsSigned w64 i → Suffix rs ss × IntText (map chr ss) i (map chr rs)
number_spelt (Minus ∷ ss) i rs h fits = let d = digits_spelt true ss i rs h fits in (one_less Minus ss rs d.0, d.1)
number_spelt (Digit e ∷ ss) i rs h fits = digits_spelt false (Digit e ∷ ss) i rs h fits
number_spelt [] i rs h fits = absurd h
number_spelt (Blank ∷ ss) i rs h fits = absurd h
number_spelt (Open ∷ ss) i rs h fits = absurd h
number_spelt (Close ∷ ss) i rs h fits = absurd h
number_spelt (Comma ∷ ss) i rs h fits = absurd h
number_spelt (Equals ∷ ss) i rs h fits = absurd h
number_spelt (Question ∷ ss) i rs h fits = absurd h
number_spelt (Underscore ∷ ss) i rs h fits = absurd h
number_spelt (Small b ∷ ss) i rs h fits = absurd h
number_spelt (Capital b ∷ ss) i rs h fits = absurd h
number_spelt (Other ∷ ss) i rs h fits = absurd h

after_sign : (s : Symbol) (ss inner rs : List Symbol) → SignText s ss inner → Suffix rs inner → Suffix rs ss
after_sign s ss inner rs e h = less ss (skip ss) rs (skip_left ss) (subst (Suffix rs) (sym e) (one_less s inner rs h))

sign_read : (s : Symbol) (ss inner : List Symbol) → SignText s ss inner → AreRead ss → AreRead inner
sign_read s ss inner e r = (subst AreRead e (read_left ss (skip ss) (skip_left ss) r)).1

module _ (tb : Table) where
  mutual
    pub value_spelt : (k : ℕ) (ss : List Symbol) (w : Written) (v : Value) (rs : List Symbol) → AreRead ss → WrittenText ss w rs → IsValue tb k w v → Suffix rs ss × ValueText tb k (map chr ss) v (map chr rs)
    value_spelt zero ss (Number i) (Int j) rs r h is =
        let n = number_spelt (skip ss) i rs h is.1 in
        (less ss (skip ss) rs (skip_left ss) n.0, subst (λ cs. IntText cs j (map chr rs)) (sym (skip_chr ss)) (subst (λ x. IntText (map chr (skip ss)) x (map chr rs)) is.0 n.1))
    value_spelt zero ss (Number i) (Node c vs) rs r h is = absurd is
    value_spelt zero ss (Named name ws) v rs r h is = absurd is
    value_spelt (suc t) ss (Number i) v rs r h is = absurd is
    value_spelt (suc t) ss (Named name ws) (Int j) rs r h is = absurd is
    value_spelt (suc t) ss (Named name ws) (Node c vs) rs r h is =
        let s = is.0 in
        let ts = skip ss in
        let rt = read_left ss ts (skip_left ss) r in
        let n = names_same ts rt in
        let rb = read_left ts (following ts) (after_left ts) rt in
        let f = fields_spelt s.fields (following ts) ws vs rs rb h.2 is.3 in
        let named : V.name_of (V.skip (map chr ss)) ≡ characters s.name = ap V.name_of (skip_chr ss) ∙ n.same ∙ ap characters (sym h.1 ∙ sym is.2) in (
          less ss ts rs (skip_left ss) (less ts (following ts) rs (after_left ts) f.0),
          (s, is.1, named, subst (λ cs. FieldsText tb s.fields cs vs (map chr rs)) (sym (ap V.after_name (skip_chr ss) ∙ following_chr ts)) f.1),
        )

    fields_spelt : (ks : List ℕ) (ss : List Symbol) (ws : Parts) (vs : Values) (rs : List Symbol) → AreRead ss → PartsText ss ws rs → AreValues tb ks ws vs → Suffix rs ss × FieldsText tb ks (map chr ss) vs (map chr rs)
    fields_spelt [] ss NoParts End rs r h is = (subst (Suffix rs) h.1 (all_left rs), ap (map chr) (sym h.1))
    fields_spelt [] ss NoParts (More v vs) rs r h is = absurd is
    fields_spelt [] ss (MoreParts w ws) vs rs r h is = absurd is
    fields_spelt (k ∷ ks) ss NoParts vs rs r h is = absurd is
    fields_spelt (k ∷ ks) ss (MoreParts w ws) End rs r h is = absurd is
    fields_spelt (k ∷ ks) ss (MoreParts w ws) (More v vs) rs r h is =
        let inner = h.0 in
        let after = h.1 in
        let ri = sign_read Open ss inner h.2 r in
        let x = value_spelt k inner w v after ri h.3 is.0 in
        let m = more_spelt ks after ws vs rs (read_left inner after x.0 ri) h.4 is.1 in (
          after_sign Open ss inner rs h.2 (less inner after rs x.0 m.0),
          (map chr inner, map chr after, skip_chr ss ∙ ap (map chr) h.2, x.1, m.1),
        )

    more_spelt : (ks : List ℕ) (ss : List Symbol) (ws : Parts) (vs : Values) (rs : List Symbol) → AreRead ss → FurtherText ss ws rs → AreValues tb ks ws vs → Suffix rs ss × MoreText tb ks (map chr ss) vs (map chr rs)
    more_spelt [] ss NoParts End rs r h is = (after_sign Close ss rs rs h (all_left rs), skip_chr ss ∙ ap (map chr) h)
    more_spelt [] ss NoParts (More v vs) rs r h is = absurd is
    more_spelt [] ss (MoreParts w ws) vs rs r h is = absurd is
    more_spelt (k ∷ ks) ss NoParts vs rs r h is = absurd is
    more_spelt (k ∷ ks) ss (MoreParts w ws) End rs r h is = absurd is
    more_spelt (k ∷ ks) ss (MoreParts w ws) (More v vs) rs r h is =
        let next = h.0 in
        let after = h.1 in
        let ri = sign_read Comma ss next h.2 r in
        let x = value_spelt k next w v after ri h.3 is.0 in
        let m = more_spelt ks after ws vs rs (read_left next after x.0 ri) h.4 is.1 in (
          after_sign Comma ss next rs h.2 (less next after rs x.0 m.0),
          (map chr next, map chr after, skip_chr ss ∙ ap (map chr) h.2, x.1, m.1),
        )

-- ---- what is written goes on

digits_left : (neg : Bool) (ss : List Symbol) (i : ℤ) (rs : List Symbol) → DigitsText neg ss i rs → Suffix rs ss
digits_left neg (Digit d ∷ ss) i rs h = subst (λ r. Suffix r (Digit d ∷ ss)) (sym h.1) (one_less (Digit d) ss (after_number ss) (number_left ss))
digits_left neg [] i rs h = absurd h
digits_left neg (Blank ∷ ss) i rs h = absurd h
digits_left neg (Open ∷ ss) i rs h = absurd h
digits_left neg (Close ∷ ss) i rs h = absurd h
digits_left neg (Comma ∷ ss) i rs h = absurd h
digits_left neg (Equals ∷ ss) i rs h = absurd h
digits_left neg (Question ∷ ss) i rs h = absurd h
digits_left neg (Minus ∷ ss) i rs h = absurd h
digits_left neg (Underscore ∷ ss) i rs h = absurd h
digits_left neg (Small b ∷ ss) i rs h = absurd h
digits_left neg (Capital b ∷ ss) i rs h = absurd h
digits_left neg (Other ∷ ss) i rs h = absurd h

ints_left : (ss : List Symbol) (i : ℤ) (rs : List Symbol) → NumberText ss i rs → Suffix rs ss
ints_left (Minus ∷ ss) i rs h = one_less Minus ss rs (digits_left true ss i rs h)
ints_left (Digit e ∷ ss) i rs h = digits_left false (Digit e ∷ ss) i rs h
ints_left [] i rs h = absurd h
ints_left (Blank ∷ ss) i rs h = absurd h
ints_left (Open ∷ ss) i rs h = absurd h
ints_left (Close ∷ ss) i rs h = absurd h
ints_left (Comma ∷ ss) i rs h = absurd h
ints_left (Equals ∷ ss) i rs h = absurd h
ints_left (Question ∷ ss) i rs h = absurd h
ints_left (Underscore ∷ ss) i rs h = absurd h
ints_left (Small b ∷ ss) i rs h = absurd h
ints_left (Capital b ∷ ss) i rs h = absurd h
ints_left (Other ∷ ss) i rs h = absurd h

mutual
  written_left : (ss : List Symbol) (w : Written) (rs : List Symbol) → WrittenText ss w rs → Suffix rs ss
  written_left ss (Number i) rs h = less ss (skip ss) rs (skip_left ss) (ints_left (skip ss) i rs h)
  written_left ss (Named name ws) rs h = less ss (skip ss) rs (skip_left ss) (less (skip ss) (following (skip ss)) rs (after_left (skip ss)) (parts_left (following (skip ss)) ws rs h.2))

  parts_left : (ss : List Symbol) (ws : Parts) (rs : List Symbol) → PartsText ss ws rs → Suffix rs ss
  parts_left ss NoParts rs h = subst (Suffix rs) h.1 (all_left rs)
  parts_left ss (MoreParts w ws) rs h = after_sign Open ss h.0 rs h.2 (less h.0 h.1 rs (written_left h.0 w h.1 h.3) (further_left h.1 ws rs h.4))

  further_left : (ss : List Symbol) (ws : Parts) (rs : List Symbol) → FurtherText ss ws rs → Suffix rs ss
  further_left ss NoParts rs h = after_sign Close ss rs rs h (all_left rs)
  further_left ss (MoreParts w ws) rs h = after_sign Comma ss h.0 rs h.2 (less h.0 h.1 rs (written_left h.0 w h.1 h.3) (further_left h.1 ws rs h.4))

no_longer : (rs ss : List Symbol) → Suffix rs ss → length rs ≤ length ss
no_longer rs ss h = let a = ap length h.1 in let b = length-append h.0 rs in omega (arith, a, b)

-- parts in brackets take symbols
brackets_shorter : (ss : List Symbol) (w : Written) (ws : Parts) (rs : List Symbol) → PartsText ss (MoreParts w ws) rs → length rs < length ss
brackets_shorter ss w ws rs h =
    let a = no_longer rs h.0 (less h.0 h.1 rs (written_left h.0 w h.1 h.3) (further_left h.1 ws rs h.4)) in
    let b = no_longer (skip ss) ss (skip_left ss) in
    let c = ap length h.2 in
    omega (arith, a, b, c)

-- ---- what is there is what is written there

bare_or : (v : Value) → ((c : ℕ) × (v ≡ Node c End)) ⊎ ((c : ℕ) → v ≡ Node c End → ⊥)
bare_or (Int i) = inr (λ c e. cc)
bare_or (Node c End) = inl (c, refl)
bare_or (Node c (More v vs)) = inr (λ d e. cc)

same_written : (v w : Written) → Fresh v ≡ Fresh w → v ≡ w
same_written v w e = cc

module _ (tb : Table) (sound : IsSoundTable tb) where
  no_fields : (ks : List ℕ) (cs rest : List Character) → FieldsText tb ks cs End rest → (ks ≡ []) × (rest ≡ cs)
  no_fields [] cs rest h = (refl, sym h)
  no_fields (k ∷ ks) cs rest h = absurd h

  bare_by : (k c : ℕ) (ss rs : List Symbol) (rest : List Character) (s : Shape) → slice_get (shapes tb k) c ≡ Some s → word (skip ss) ≡ s.name → BeginsCapital (skip ss) → s.fields ≡ [] → rest ≡ map chr (following (skip ss)) → length rest ≡ length rs → (w : Written) → WrittenText ss w rs → IsValue tb (suc k) w (Node c End)
  bare_by k c ss rs rest s there named capital none is same (Number i) t = absurd (number_is_no_name (skip ss) rs i t capital)
  bare_by k c ss rs rest s there named capital none is same (Named name NoParts) t = (s, there, sym named ∙ sym t.1, subst (λ ks. AreValues tb ks NoParts End) (sym none) tt)
  bare_by k c ss rs rest s there named capital none is same (Named name (MoreParts w ws)) t =
      let x = brackets_shorter (following (skip ss)) w ws rs t.2 in
      let y = ap length is in
      let z = length-map (following (skip ss)) chr in
      absurd (let n : ⊥ = omega (arith, x, y, z, same) in n)

  bare_is : (k c : ℕ) (ss : List Symbol) (w : Written) (rs : List Symbol) (rest : List Character) → AreRead ss → WrittenText ss w rs → ValueText tb k (map chr ss) (Node c End) rest → length rest ≡ length rs → IsValue tb k w (Node c End)
  bare_is zero c ss w rs rest r t h same = absurd h
  bare_is (suc k) c ss w rs rest r t h same =
      let s = h.0 in
      let ts = skip ss in
      let rt = read_left ss ts (skip_left ss) r in
      let n = names_same ts rt in
      let upper = sound.names k c s h.1 in
      let named : word ts ≡ s.name = same_bytes (word ts) s.name n.bytes (upper_bytes s.name upper) (sym n.same ∙ ap V.name_of (sym (skip_chr ss)) ∙ h.2) in
      let f = no_fields s.fields (V.after_name (V.skip (map chr ss))) rest h.3 in
      bare_by k c ss rs rest s h.1 named (begins_capital ts rt (ap is_upper_name named ∙ upper)) f.0 (f.1 ∙ ap V.after_name (skip_chr ss) ∙ following_chr ts) same w t

  pub written_is : (k : ℕ) (ss : List Symbol) (w : Written) (v : Value) (rs : List Symbol) (rest : List Character) → AreRead ss → WrittenText ss w rs → ValueText tb k (map chr ss) v rest → length rest ≡ length rs → IsValue tb k w v
  written_is k ss w v rs rest r t h same = by (bare_or v)
    where
      by : ((c : ℕ) × (v ≡ Node c End)) ⊎ ((c : ℕ) → v ≡ Node c End → ⊥) → IsValue tb k w v
      by (inl b) = subst (IsValue tb k w) (sym b.1) (bare_is k b.0 ss w rs rest r t (subst (λ v. ValueText tb k (map chr ss) v rest) b.1 h) same)
      by (inr not) =
          let x = value_written tb sound k ss v rest r h (λ c e. absurd (not c e)) in
          let one = given_once (Fresh x.w) (Fresh w) ss x.rs rs x.text t in
          subst (λ w. IsValue tb k w v) (same_written x.w w one.0) x.value
