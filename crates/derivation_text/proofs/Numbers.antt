-- A number, and what is after it, a byte after another.
use Rattle.std.proofs.Common.{◌≡◌, ℕ, ◌+◌, ◌-◌, ◌*◌, ◌<◌, ◌≤◌, List, [], ◌∷◌, ◌++◌, Bool, true, false, refl, sym, ap, ◌∙◌, subst, arith}
use Rattle.std.specs.Prelude.{◌==◌}
use Rattle.std.specs.Fmt.{decimal}
use Rattle.std.proofs.lemmas.Bool.{ne_eqb, eqb-false}
use Rattle.fip_language.specs.Character.{is_digit}
use Rattle.derivation_text.specs.ProofText.{GREATEST}
use Rattle.derivation_text.specs.Machine.{begins, Made}
use Rattle.derivation_text.proofs.Digits.{Continues, IsBreak, number_digit, after_digit, number_break, after_break, digit_is, digit_range, decimal_digits, digits_decimal, continues_begins, begins_continues}
pub use Rattle.fip_language.proofs.Facts.{cons_head, cons_tail, true_is_not_false as bits_differ}

pub no_cons : {A : Type 0} → (y : A) (ys : List A) → [] ≡ y ∷ ys → ⊥
no_cons y ys e = cc

-- what may occur after a number of this value
abbrev pub Follow : Type 1
Follow = ℕ → List ℕ → List Made → Type 0

-- something is there, and it is no digit
pub record IsFollow (P : Follow) : Type 0 where
  pub breaks : (m : ℕ) (more : List ℕ) (x : List Made) → P m more x → IsBreak more
  pub some : (m : ℕ) (x : List Made) → P m [] x → ⊥

-- a number within bounds, and then what follows it
abbrev pub Want : ℕ → ℕ → Follow → List ℕ → List Made → Type 0
Want least most P bs x = (m : ℕ) × (more : List ℕ) × (least ≤ m) × (m ≤ most) × (bs ≡ decimal m ++ more) × P m more x

-- the same after digits that make n
abbrev pub Going : ℕ → ℕ → ℕ → Follow → List ℕ → List Made → Type 0
Going n least most P bs x = (m : ℕ) × (more : List ℕ) × (least ≤ m) × (m ≤ most) × Continues n bs m more × P m more x

module _ (P : Follow) (theorem : IsFollow P) (least most : ℕ) (small : most ≤ GREATEST) where
  pub want_takes : (t : ℕ) (ts : List ℕ) (x : List Made) → Want least most P (t ∷ ts) x → (is_digit t ≡ true) × (begins (t - 48) least most ≡ true) × Going (t - 48) least most P ts x
  want_takes t ts x h =
      let le = h.3 in
      let break = theorem.breaks h.0 h.1 x h.5 in
      let q = decimal_digits h.0 h.1 (omega arith) break in
      let e = h.4 ∙ q.2 in
      let a : t ≡ 48 + q.0 = cons_head t (48 + q.0) ts q.1 e in
      let b : ts ≡ q.1 = cons_tail t (48 + q.0) ts q.1 e in
      let d : q.0 ≡ t - 48 = omega (arith, a) in
      let c : Continues (t - 48) ts h.0 h.1 = subst (λ n. Continues n ts h.0 h.1) d (subst (λ bs. Continues q.0 bs h.0 h.1) (sym b) q.4) in
      (ap is_digit a ∙ digit_is q.0 q.3, continues_begins (t - 48) ts h.0 h.1 least most break c h.2 h.3 small, (h.0, h.1, h.2, h.3, c, h.5))

  pub want_gives : (t : ℕ) (ts : List ℕ) (x : List Made) → is_digit t ≡ true → Going (t - 48) least most P ts x → Want least most P (t ∷ ts) x
  want_gives t ts x d h =
      let r = digit_range t d in
      let r0 = r.0 in
      let r1 = r.1 in
      let le = h.3 in
      let e : t ≡ 48 + (t - 48) = omega arith in
      (h.0, h.1, h.2, h.3, ap (λ t. t ∷ ts) e ∙ digits_decimal (t - 48) ts h.0 h.1 (omega arith) (omega arith) (theorem.breaks h.0 h.1 x h.5) h.4, h.5)

  pub want_end : (x : List Made) → Want least most P [] x → ⊥
  want_end x h =
      let le = h.3 in
      let q = decimal_digits h.0 h.1 (omega arith) (theorem.breaks h.0 h.1 x h.5) in
      no_cons (48 + q.0) q.1 (h.4 ∙ q.2)

  pub going_digit : (n t : ℕ) (ts : List ℕ) (x : List Made) → is_digit t ≡ true → Going n least most P (t ∷ ts) x → ((n == 0) ≡ false) × (begins (10 * n + (t - 48)) least most ≡ true) × Going (10 * n + (t - 48)) least most P ts x
  going_digit n t ts x d h =
      let break = theorem.breaks h.0 h.1 x h.5 in
      let k = h.4 in
      let nonzero : n ≡ 0 → ⊥ = λ z. bits_differ (is_digit t) d (subst IsBreak (sym (k.2 z)) break) in
      let pos : 0 < n = (let f = ne_eqb n 0 nonzero in let g = eqb-false n 0 f in omega (arith, g)) in
      let c : Continues (10 * n + (t - 48)) ts h.0 h.1 = (sym (number_digit n t ts d) ∙ k.0, sym (after_digit t ts d) ∙ k.1, λ z. absurd (omega (arith, z))) in
      (ne_eqb n 0 nonzero, continues_begins (10 * n + (t - 48)) ts h.0 h.1 least most break c h.2 h.3 small, (h.0, h.1, h.2, h.3, c, h.5))

  pub going_longer : (n t : ℕ) (ts : List ℕ) (x : List Made) → is_digit t ≡ true → (n == 0) ≡ false → Going (10 * n + (t - 48)) least most P ts x → Going n least most P (t ∷ ts) x
  going_longer n t ts x d z h =
      let k = h.4 in
      (h.0, h.1, h.2, h.3, (number_digit n t ts d ∙ k.0, after_digit t ts d ∙ k.1, λ e. absurd (eqb-false n 0 z e)), h.5)

  pub going_after : (n t : ℕ) (ts : List ℕ) (x : List Made) → is_digit t ≡ false → Going n least most P (t ∷ ts) x → (least ≤ n) × (n ≤ most) × P n (t ∷ ts) x
  going_after n t ts x d h =
      let k = h.4 in
      let m : h.0 ≡ n = sym k.0 ∙ number_break n (t ∷ ts) d in
      let more : h.1 ≡ t ∷ ts = sym k.1 ∙ after_break (t ∷ ts) d in
      let a = h.2 in
      let b = h.3 in
      (omega (arith, m), omega (arith, m), subst (λ n. P n (t ∷ ts) x) m (subst (λ l. P h.0 l x) more h.5))

  pub after_going : (n t : ℕ) (ts : List ℕ) (x : List Made) → is_digit t ≡ false → least ≤ n → n ≤ most → P n (t ∷ ts) x → Going n least most P (t ∷ ts) x
  after_going n t ts x d a b p = (n, t ∷ ts, a, b, (number_break n (t ∷ ts) d, after_break (t ∷ ts) d, λ _. refl), p)

  pub going_end : (n : ℕ) (x : List Made) → Going n least most P [] x → ⊥
  going_end n x h = let k = h.4 in theorem.some h.0 x (subst (λ l. P h.0 l x) (sym k.1) h.5)

  pub going_alive : (n : ℕ) → begins n least most ≡ true → ((m : ℕ) → least ≤ m → m ≤ most → (more : List ℕ) × (x : List Made) × P m more x) → (bs : List ℕ) × (x : List Made) × Going n least most P bs x
  going_alive n e f =
      let q = begins_continues n least most e in
      let p = f q.0 q.1 q.2 in
      let d = q.3 in
      (d.0 ++ p.0, p.1, (q.0, p.0, q.1, q.2, d.1 p.0 (theorem.breaks q.0 p.0 p.1 p.2), p.2))

  pub want_alive : least ≤ most → ((m : ℕ) → least ≤ m → m ≤ most → (more : List ℕ) × (x : List Made) × P m more x) → (bs : List ℕ) × (x : List Made) × Want least most P bs x
  want_alive le f =
      let p = f least (omega arith) le in
      (decimal least ++ p.0, p.1, (least, p.0, omega arith, le, refl, p.2))
