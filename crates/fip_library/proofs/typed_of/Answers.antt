use Rattle.std.proofs.Common.{◌≡◌, ℕ, List, sym, subst}
use Rattle.fip_base.specs.CoreView.{core as core_view}
use Rattle.fip_language.specs.Core.{Core}
use Rattle.fip_trees.specs.Tree.{Program}
use Rattle.fip_trees.specs.TreeView as V
use Rattle.source_report.specs.Report.{IsParsed, IsTyped}
use Rattle.fip_library.proofs.Phases.{typed_is}
use Rattle.fip_library.proofs.typed_of.Goals as goal

parsed_so : (source : List ℕ) (core : Core) (p : Program) (h : IsTyped source p) → core ≡ h.flat.core → IsParsed source core
parsed_so source core p h e = subst (λ c. IsParsed source c) (sym e) h.flat.declared.parsed

pub returns-in-Ok-flat_of : goal.returns-in-Ok-flat_of
returns-in-Ok-flat_of c = record {
  typed = λ p h.
      typed_is c.args.source.now p (V.program c.in-Ok-flat_of.flat) c.check_types.result h
      (c.in-Ok-flat_of.ensures.flat c.args.source.now h.untyped h.flat
      (parsed_so c.args.source.now (core_view c.in-Ok.core) p h (c.in-Ok.ensures.core h.flat.core h.flat.declared.parsed)))
      c.check_types.ensures.tree c.check_types.ensures.least;
}

pub returns-in-Ok : goal.returns-in-Ok
returns-in-Ok c = record {
  typed = λ p h.
      c.in-Err-flat_of.ensures.flat c.args.source.now h.untyped h.flat
      (parsed_so c.args.source.now (core_view c.in-Ok.core) p h (c.in-Ok.ensures.core h.flat.core h.flat.declared.parsed));
}

pub returns : goal.returns
returns c = record { typed = λ p h. c.in-Err.ensures.core h.flat.core h.flat.declared.parsed }
