-- Closed trees are compared exactly.
use Rattle.std.proofs.Common.{◌≡◌, ℕ, Bool, true, false, ◌&&◌, refl, ap, subst, ◌∙◌, arith}
use Rattle.std.specs.Prelude.{◌==◌}
use Rattle.std.proofs.lemmas.Bool.Decides.{nat_tests}
use Rattle.closed_types.specs.declared.closed.Head.{Head}
use Rattle.closed_types.specs.declared.closed.Head.TheVariants as H
use Rattle.closed_types.specs.Closed.{Closed, Closeds, Int, Applied, NoClosed, MoreClosed, same_head, same_closed}
use Rattle.closed_types.specs.Closed.{same_closeds}
use Rattle.closed_types.proofs.Sameness.{IsSame}
use Rattle.fip_base.proofs.fip_language.Facts.{and_both as and_by, both_true, equal_itself as nat_self, same_number as nat_is}

pub head_is : (g h : Head) → same_head g h ≡ true → g ≡ h
head_is (H.«Type» m) (H.«Type» n) e = ap H.«Type» (nat_is m n e)
head_is (H.«Type» m) (H.Function n) e = cc
head_is (H.Function m) (H.«Type» n) e = cc
head_is (H.Function m) (H.Function n) e = ap H.Function (nat_is m n e)

pub head_self : (h : Head) → same_head h h ≡ true
head_self (H.«Type» n) = nat_self n
head_self (H.Function n) = nat_self n

mutual
  same_is : (c d : Closed) → same_closed c d ≡ true → c ≡ d
  same_is Int Int e = refl
  same_is Int (Applied n ds) e = cc
  same_is (Applied m cs) Int e = cc
  same_is (Applied m cs) (Applied n ds) e =
      let s = and_by (same_head m n) (same_closeds cs ds) e in
      ap (λ x. Applied x cs) (head_is m n s.0) ∙ ap (Applied n) (sames_are cs ds s.1)

  sames_are : (cs ds : Closeds) → same_closeds cs ds ≡ true → cs ≡ ds
  sames_are NoClosed NoClosed e = refl
  sames_are NoClosed (MoreClosed d ds) e = cc
  sames_are (MoreClosed c cs) NoClosed e = cc
  sames_are (MoreClosed c cs) (MoreClosed d ds) e =
      let s = and_by (same_closed c d) (same_closeds cs ds) e in
      ap (λ x. MoreClosed x cs) (same_is c d s.0) ∙ ap (MoreClosed d) (sames_are cs ds s.1)

mutual
  same_self : (c : Closed) → same_closed c c ≡ true
  same_self Int = refl
  same_self (Applied m cs) = both_true _ _ (head_self m) (sames_self cs)

  sames_self : (cs : Closeds) → same_closeds cs cs ≡ true
  sames_self NoClosed = refl
  sames_self (MoreClosed c cs) = both_true _ _ (same_self c) (sames_self cs)

pub closed_exact : IsSame same_closed
closed_exact = record { yes = same_is; no = λ c d e q. let f : same_closed c d ≡ true = subst (λ x. same_closed c x ≡ true) q (same_self c) in cc }
