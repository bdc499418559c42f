-- What is required of an accepted program's root.
use Rattle.std.proofs.Common.{◌≡◌, ℕ, List, slice_get, sym, subst, inr}
use Rattle.std.specs.Prelude.{Some, None, Result, Ok, Err, OnOk}
use Rattle.fip_language.proofs.Words.{slice_get-map}
use Rattle.fip_language.specs.declared.rule.Rule.TheVariants.{E70}
use Rattle.fip_trees.specs.Tree.{Program}
use Rattle.fip_trees.specs.TreeView as V
use Rattle.fip_trees.specs.declared.program.Instance.{Instance}
use Rattle.fip_trees.specs.declared.program.Program.{Program as a_program}
use Rattle.command_outcome.specs.declared.failure.Failure.{Failure}
use Rattle.command_outcome.specs.declared.failure.Failure.TheVariants as F
use Rattle.program_front.specs.source_report.Report.{IsAccepted}
use Rattle.command_source.specs.Entries.{IsRootedIn}
use Rattle.command_source.specs.Roots.{root_named}
use Rattle.command_source.specs.Wanted.{Wanted, Root, Compiled, MissesRoot, MissesCode, Has, IsReady, IsRefusedBy, KeepsFrom, of_entry}

pub ready : {T : Type 0} (source : List ℕ) (w : Wanted) (p : Program) (o : Result T Failure) → IsAccepted source p → Has w p → OnOk o (IsReady source w)
ready source w p (Ok t) h k = record { program = p; accepted = h; has = k }
ready source w p (Err f) h k = tt

pub root_found : (source name : List ℕ) (p : a_program) (ds : List Instance) (i : ℕ) (d : Instance) → ds ≡ p.instances.items → IsAccepted source (V.program p) → slice_get ds i ≡ Some d → root_named name (V.instances ds) ≡ Some (V.instance_of d) → IsRootedIn source name (V.program p) i
root_found source name p ds i d same h at named =
    record {
      accepted = h;
      root = V.instance_of d;
      there = slice_get-map V.instance_of p.instances.items i d (subst (λ xs. slice_get xs i ≡ Some d) same at);
      named = subst (λ xs. root_named name (V.instances xs) ≡ Some (V.instance_of d)) same named;
    }

pub root_missing : (source name : List ℕ) (p : Program) (f : Failure) → IsAccepted source p → root_named name p.instances ≡ None → IsRefusedBy (λ r. r ≡ of_entry E70 name) f → KeepsFrom source (Root name) f
root_missing source name p (F.Refused r) h none e = inr (p, h, subst (λ o. MissesRoot o name r) (sym none) e)
root_missing source name p F.NoMemory h none e = tt
root_missing source name p f h none e = absurd e

pub code_missing : (source name : List ℕ) (p : Program) (f : Failure) → IsAccepted source p → IsRefusedBy (MissesCode (root_named name p.instances) name) f → KeepsFrom source (Compiled name) f
code_missing source name p (F.Refused r) h e = inr (p, h, e)
code_missing source name p F.NoMemory h e = tt
code_missing source name p f h e = absurd e
