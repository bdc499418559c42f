-- A test and a read: each is as required, and these are the kinds after it.
use Rattle.std.proofs.Common.{◌≡◌, ℕ, suc, ◌<◌, Bool, true, false, not, List, [], ◌∷◌, length, slice_get, Some, refl, sym, ap, ◌∙◌, subst, arith, if◌then◌else◌, ◌==◌, nat_lt}
use Rattle.std.proofs.lemmas.Option.{same_Some}
use Rattle.separation.specs.fip_language.Table.{Table}
use Rattle.separation.specs.cell_code.declared.code.Instr.TheVariants as I
use Rattle.separation.specs.cell_code.declared.kind.Kind.{Kind}
use Rattle.separation.specs.cell_code.declared.kind.Kind.TheVariants as K
use Rattle.separation.specs.cell_code.Plain.{PlainFunction, PlainCode}
use Rattle.separation.specs.code_rules.Types.{lent_kind}
use Rattle.separation.specs.code_rules.Kinds.{at, is_free, is_scalar_of, set_of, root_of}
use Rattle.separation.specs.code_rules.Changes.{forget, written, narrow, tested, without}
use Rattle.separation.specs.code_rules.Asked.{may_have, known_fields}
use Rattle.separation.specs.code_rules.Flow.{IsInstr}
use Rattle.separation.proofs.separation_kinds.Basics.{below_is, get_within, length_become}
use Rattle.separation.proofs.separation_kinds.KindLemmas.{put, dropped, is_one, at_written}
use Rattle.separation.proofs.separation_kinds.Fits.{narrowed, at_tested}
use Rattle.lowering_relation.specs.match_knowledge.declared.heads.Head.{Head}
use Rattle.lowering_relation.specs.match_knowledge.declared.heads.Head.TheVariants.{Number, Tag}
use Rattle.lowering_relation.specs.Landing.{test_of}
use Rattle.lowering_soundness.specs.Covering.{Covered}
use Rattle.lowering_soundness.specs.Rows.{IsRow}
use Rattle.lowering_relation.specs.Labels.{Shows, Catches}
use Rattle.lowering_soundness.specs.Parts.{Part}
use Rattle.lowering_soundness.proofs.Giving.{and_to}
use Rattle.lowering_soundness.proofs.Branches.{branch_part}

-- what a test requires of a register
abbrev pub MayTest : Table → Head → Kind → Type 0
MayTest w (Number i) k = is_scalar_of 0 k ≡ true
MayTest w (Tag n) k = may_have w n k ≡ true

-- the kinds where it holds, and where it doesn't
abbrev pub sided : Head → ℕ → Bool → (ℕ → Kind) → ℕ → Kind
sided (Number i) r b m = m
sided (Tag n) r true m = narrowed m r (n ∷ [])
sided (Tag n) r false m = narrowed m r (without n (set_of (m r)))

-- the kinds where register d was read
abbrev pub peeked : (ℕ → Kind) → ℕ → Kind → ℕ → Kind
peeked m d k = put d (forget (is_one d) k) (dropped (is_one d) m)

module _ (c : PlainCode) (f : PlainFunction) where
  pub whole : (m : ℕ → Kind) (ks : List Kind) → Covered f.registers m ks → at ks ≡ m
  whole m ks cov = λ i q. cov.each q i

  pub peek_row : (m : ℕ → Kind) (d r i t : ℕ) → slice_get (known_fields c.types (m r)) i ≡ Some t → m d ≡ K.Gone → (d == r) ≡ false → d < f.registers → IsRow c f m (I.Peek d r i) (peeked m d (lent_kind c.types t (root_of r (m r)) r i))
  peek_row m d r i t there gone other within = record {
    sources = λ ks cov. ap (λ k. nat_lt i (length (known_fields c.types k))) (cov.each r) ∙ below_is i (length (known_fields c.types (m r))) (get_within (known_fields c.types (m r)) i t there);
    destinations = λ ks cov. and_to (is_free (at ks d)) (not (d == r)) (ap is_free (cov.each d ∙ gone)) (ap not other);
    leaves = λ ks left cov e. (
        let k = lent_kind c.types t (root_of r (m r)) r i in
        let same : e.0 ≡ t = same_Some e.0 t (sym e.1 ∙ (ap (λ k. slice_get (known_fields c.types k) i) (cov.each r) ∙ there)) in
        let is : left ≡ written ks d k = e.2 ∙ ap (written ks d) (ap (λ t. lent_kind c.types t (root_of r (at ks r)) r i) same ∙ ap (λ j. lent_kind c.types t (root_of r j) r i) (cov.each r)) in
        subst (Covered f.registers (peeked m d k)) (sym is) (following ks k cov));
  }
    where
      following : (ks : List Kind) (k : Kind) → Covered f.registers m ks → Covered f.registers (peeked m d k) (written ks d k)
      following ks k cov =
          let wide = cov.wide in
          let inside : d < length ks = omega (arith, wide, within) in
          record {
            wide = length_become ks (λ q. forget (is_one d) (if q == d then k else at ks q)) ∙ cov.wide;
            each = λ q. at_written ks d k inside q ∙ ap (λ h. peeked h d k q) (whole m ks cov);
          }

  narrow_covered : (m : ℕ → Kind) (ks left : List Kind) (r : ℕ) (cs : List ℕ) → Covered f.registers m ks → left ≡ tested ks r cs → Covered f.registers (narrowed m r cs) left
  narrow_covered m ks left r cs cov e = subst (Covered f.registers (narrowed m r cs)) (sym e) (record {
    wide = length_become ks (λ q. if q == r then narrow cs (at ks q) else at ks q) ∙ cov.wide;
    each = λ q. at_tested ks r cs q ∙ ap (λ h. narrowed h r cs q) (whole m ks cov);
  })

  -- a test of a head, which goes to a target where it fails
  pub test_part : (p : ℕ) (m : ℕ → Kind) (r : ℕ) (h : Head) (target : ℕ) → IsInstr f p (test_of r h target) → MayTest c.types h (m r) → Catches f target (sided h r false m) → Shows f p m → Part c f p m (suc p) (sided h r true m)
  test_part p m r (Number v) target is may caught shows =
      branch_part c f p m m m (I.TestInt r v target) target is
      (record { sources = λ ks cov. ap (is_scalar_of 0) (cov.each r) ∙ may; destinations = λ ks cov. refl; leaves = λ ks left cov e. subst (Covered f.registers m) (sym e) cov })
      (λ ks. refl) (λ ks j left cov h. (h.0, subst (Covered f.registers m) (sym h.1) cov)) caught shows
  test_part p m r (Tag n) target is may caught shows =
      branch_part c f p m (narrowed m r (n ∷ [])) (narrowed m r (without n (set_of (m r)))) (I.Test r n target) target is
      (record { sources = λ ks cov. ap (may_have c.types n) (cov.each r) ∙ may; destinations = λ ks cov. refl; leaves = λ ks left cov e. narrow_covered m ks left r (n ∷ []) cov e })
      (λ ks. refl)
      (λ ks j left cov h. (h.0, narrow_covered m ks left r (without n (set_of (m r))) cov (h.1 ∙ ap (λ k. tested ks r (without n (set_of k))) (cov.each r)))) caught shows
