-- A test of what isn't a set is the same where a constructor is lacking.
use Rattle.std.proofs.Common.{◌≡◌, ℕ, refl}
use Rattle.std.specs.Prelude.{Option}
use Rattle.kind_domain.specs.cell_code.declared.kind.Kind.{Kind}
use Rattle.kind_domain.specs.cell_code.declared.kind.Kind.TheVariants.{Gone, Scalar, Owned, Lent, Credit}
use Rattle.kind_domain.specs.code_rules.Kinds.{is_free, is_scalar_of, is_credit_of}
use Rattle.register_kinds.specs.Arrivals.{lessened}

pub free : (l : Option ℕ) (k : Kind) → is_free (lessened l k) ≡ is_free k
free l Gone = refl
free l (Scalar t) = refl
free l (Owned t s) = refl
free l (Lent t s root from) = refl
free l (Credit n) = refl

pub scalar : (u : ℕ) (l : Option ℕ) (k : Kind) → is_scalar_of u (lessened l k) ≡ is_scalar_of u k
scalar u l Gone = refl
scalar u l (Scalar t) = refl
scalar u l (Owned t s) = refl
scalar u l (Lent t s root from) = refl
scalar u l (Credit n) = refl

pub credit : (u : ℕ) (l : Option ℕ) (k : Kind) → is_credit_of u (lessened l k) ≡ is_credit_of u k
credit u l Gone = refl
credit u l (Scalar t) = refl
credit u l (Owned t s) = refl
credit u l (Lent t s root from) = refl
credit u l (Credit n) = refl
