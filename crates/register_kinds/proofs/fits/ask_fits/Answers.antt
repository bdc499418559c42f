use Rattle.kind_domain.specs.Views.{kind_of}
use Rattle.register_kinds.proofs.Sparse.{credit_fits, scalar_fits}
use Rattle.register_kinds.proofs.fits.ask_fits.Goals as goal

pub returns-in-Scalar-clause-is : goal.returns-in-Scalar-clause-is
returns-in-Scalar-clause-is c =
    scalar_fits c.args.tested c.args.kinds.now c.args.known.now c.args.ask.register c.in-Scalar.ty
    (kind_of c.get.result) c.is_scalar_of.result c.args.ask.says c.requires.said c.in-Scalar.is
    c.is_scalar_of.ensures.is c.get.ensures.is

pub returns-in-Credit-clause-is : goal.returns-in-Credit-clause-is
returns-in-Credit-clause-is c =
    credit_fits c.args.tested c.args.kinds.now c.args.known.now c.args.ask.register c.in-Credit.size
    (kind_of c.get-in-Credit.result) c.is_credit_of.result c.args.ask.says c.requires.said c.in-Credit.is
    c.is_credit_of.ensures.is c.get-in-Credit.ensures.is
