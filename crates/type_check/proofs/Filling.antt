-- A program stays sound when its slots are filled: its types, and the names and credits of its instances, stay.
use Rattle.std.proofs.Common.{◌≡◌, ◌≤◌, ◌∙◌, ℕ, suc, List, [], ◌∷◌, length, map, sym, ap, refl, subst}
use Rattle.fip_language.proofs.Words.{map_at}
use Rattle.fip_language.specs.declared.limits.TheConstants.{MOST_INSTANCES}
use Rattle.fip_trees.specs.SoundProgram.{AreHeaderCredits, IsSoundProgram}
use Rattle.fip_trees.specs.Tree.{Instance, Program}
use Rattle.type_check.specs.Faults.{fill_instance, filled}
use Rattle.type_check.specs.World.{world}
use Rattle.fip_language.proofs.Facts.{map_length as as_many}

pub stays_sound : (p : Program) → IsSoundProgram p → IsSoundProgram (filled p)
stays_sound p h =
    record {
      few = subst (λ n. n ≤ MOST_INSTANCES) (sym (as_many (fill_instance (world p)) p.instances)) h.few;
      roots = λ i j d e x y r q same.
          let a = map_at (fill_instance (world p)) p.instances i d x in
          let b = map_at (fill_instance (world p)) p.instances j e y in
          h.roots i j a.0 b.0 a.1 b.1 (ap (λ (z : Instance). z.root) a.2 ∙ r) (ap (λ (z : Instance). z.root) b.2 ∙ q)
          (ap (λ (z : Instance). z.name) a.2 ∙ same ∙ sym (ap (λ (z : Instance). z.name) b.2));
      few_types = h.few_types;
      bool = h.bool;
      inhabited = h.inhabited;
      known = h.known;
      narrow = h.narrow;
      unlike = h.unlike;
      credits = λ i d x.
          let a = map_at (fill_instance (world p)) p.instances i d x in
          subst (λ (z : Instance). AreHeaderCredits z.credits) a.2 (h.credits i a.0 a.1);
    }
