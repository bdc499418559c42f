-- The text of what is made, line by line: what was written so far, and what is made for the other instances, are the
-- text of the whole.
use Rattle.std.proofs.Common.{◌≡◌, ℕ, ◌+◌, ◌<◌, ◌≤◌, refl, sym, ap, subst, ◌∙◌, append_assoc, List, [], ◌∷◌, ◌++◌, map, drop, length, Bool, true, false, Result, Err, arith}
use Rattle.std.proofs.lemmas.List.{append-nil, length-append}
use Rattle.std.proofs.lemmas.Grind.{common_steps}
use Rattle.std.specs.Prelude.{if◌then◌else◌}
use Rattle.std.specs.Fmt.{decimal}
use Rattle.fip_trees.specs.declared.needs.Need.{Need}
use Rattle.fip_trees.specs.NeedsView.{needs_of}
use Rattle.fip_trees.specs.SoundProgram.{IsSoundProgram}
use Rattle.fip_trees.specs.Tree.{Instance, Program}
use Rattle.fip_trees.specs.TreeView.{instance_of}
use Rattle.fip_trees.specs.declared.program.Instance as A
use Rattle.fip_trees.proofs.TypedPrograms.{few_instances}
use Rattle.derivation_walk.specs.fip_rules.World.{world, is_ruled}
use Rattle.derivation_agreement.specs.ownership_agreement.Agreement.{AreSized}
use Rattle.derivation_trees.specs.Trees.{Entry}
use Rattle.derivation_trees.specs.WholeTrees.{IsWhole}
use Rattle.derivation_check.specs.Calculus.{Choice}
use Rattle.derivation_check.specs.Accepted.{DerivesInstance, FirstEntry, AreDerived, IsDerivation}
use Rattle.derivation_text.specs.declared.error.TextError.{TextError}
use Rattle.derivation_text.specs.declared.error.TextError.TheVariants.{TooLong}
use Rattle.derivation_text.specs.Limited.{Limited}
use Rattle.derivation_text.specs.ProofText.{tree_text, line_text, lines_text, IsProofText}
use Rattle.derivation_text.proofs.Whole.{one_derivation}
use Rattle.derivation_text.proofs.Written.{tree_on}
use Rattle.derivation_agreement.specs.derivation_making.Made.{made_instance, made_entries}
use Rattle.derivation_agreement.specs.derivation_making.Numbered.{AllNumbered}
use Rattle.derivation_agreement.specs.derivation_making.Weakening.{AllLean}
use Rattle.derivation_agreement.proofs.derivation_making.Programs.{program_derived, program_lean}
use Rattle.derivation_agreement.specs.Limits.{HasFewRegisters, KeepsLimits}
use Rattle.derivation_agreement.proofs.TextWhole.{made_is_read}
use Rattle.derivation_walk.specs.Guides.{IsWalked}
use Rattle.derivation_agreement.proofs.Sited.{Piece, piece_second}
use Rattle.derivation_agreement.proofs.WalkWhole.{walked_is}
use Rattle.fip_proof.specs.Ready.{IsReady}
use Rattle.fip_proof.specs.Lines.{IsLine}
pub use Rattle.derivation_walk.proofs.WalkRows.{none_left}

-- ---- texts

line_on : (e : Entry) (rest : List ℕ) → IsWhole e.tree → line_text e rest ≡ line_text e [] ++ rest
line_on e rest w =
    ap (λ k. decimal e.instance ++ 32 ∷ k) (tree_on e.tree (10 ∷ rest) w ∙ sym (append_assoc (tree_text e.tree []) (10 ∷ []) rest) ∙ ap (λ k. k ++ rest) (sym (tree_on e.tree (10 ∷ []) w)))
    ∙ sym (append_assoc (decimal e.instance) (32 ∷ tree_text e.tree (10 ∷ [])) rest)

-- ---- instances

-- those from the one of number n on
pub record Rest (p : Program) (n : ℕ) (ds : List Instance) : Type 0 where
  pub piece : Piece p.instances ds n
  pub numbered : AllNumbered p ds
  pub sized : AreSized p ds
  pub derived : AreDerived p n ds (made_entries p n ds)

rest_all : (p : Program) (needs : List (List Need)) → IsReady p needs → Rest p 0 p.instances
rest_all p needs h = record {
  piece = record { before = []; following = []; is = sym (append-nil p.instances); at = refl };
  numbered = h.numbered;
  sized = h.sized;
  derived = program_derived p h.filled h.numbered h.sized h.accepted;
}

rest_after : (p : Program) (n : ℕ) (d : Instance) (ds : List Instance) → Rest p n (d ∷ ds) → Rest p (n + 1) ds
rest_after p n d ds h = record {
  piece = piece_second p.instances (d ∷ []) ds n (n + 1) refl h.piece;
  numbered = h.numbered.1;
  sized = h.sized.1;
  derived = by (is_ruled d.kind) h.derived;
}
  where
    by : (b : Bool) → Choice b (FirstEntry (if b then record { instance = n; tree = made_instance p (world p d.kind) d } ∷ made_entries p (n + 1) ds else made_entries p (n + 1) ds) (λ e rest. (e.instance ≡ n) × DerivesInstance (world p d.kind) d e.tree × AreDerived p (n + 1) ds rest)) (AreDerived p (n + 1) ds (if b then record { instance = n; tree = made_instance p (world p d.kind) d } ∷ made_entries p (n + 1) ds else made_entries p (n + 1) ds)) → AreDerived p (n + 1) ds (made_entries p (n + 1) ds)
    by true g = g.2
    by false g = g

derives_first : (p : Program) (n : ℕ) (d : Instance) (ds : List Instance) → is_ruled d.kind ≡ true → AreDerived p n (d ∷ ds) (made_entries p n (d ∷ ds)) → DerivesInstance (world p d.kind) d (made_instance p (world p d.kind) d)
derives_first p n d ds r h = by (is_ruled d.kind) r h
  where
    by : (b : Bool) → b ≡ true → Choice b (FirstEntry (if b then record { instance = n; tree = made_instance p (world p d.kind) d } ∷ made_entries p (n + 1) ds else made_entries p (n + 1) ds) (λ e rest. (e.instance ≡ n) × DerivesInstance (world p d.kind) d e.tree × AreDerived p (n + 1) ds rest)) (AreDerived p (n + 1) ds (if b then record { instance = n; tree = made_instance p (world p d.kind) d } ∷ made_entries p (n + 1) ds else made_entries p (n + 1) ds)) → DerivesInstance (world p d.kind) d (made_instance p (world p d.kind) d)
    by true e g = g.1
    by false e g = absurd (cc)

-- ---- what was written

-- of a program that derivations are made for, the text up to the instance of number n
pub record Written (p : Program) (n : ℕ) (ds : List Instance) (bytes : List ℕ) : Type 0 where
  pub rest : Rest p n ds
  pub is : lines_text (made_entries p 0 p.instances) ≡ bytes ++ lines_text (made_entries p n ds)

pub nothing_written : (p : Program) (needs : List (List Need)) (ds : List Instance) (bytes : List ℕ) → ds ≡ p.instances → bytes ≡ [] → IsReady p needs → Written p 0 ds bytes
nothing_written p needs ds bytes e b h =
    subst (λ xs. Written p 0 xs bytes) (sym e) (record { rest = rest_all p needs h; is = ap (λ xs. xs ++ lines_text (made_entries p 0 p.instances)) (sym b) })

made_ruled : (p : Program) (n : ℕ) (d : Instance) (ds : List Instance) → is_ruled d.kind ≡ true → made_entries p n (d ∷ ds) ≡ record { instance = n; tree = made_instance p (world p d.kind) d } ∷ made_entries p (n + 1) ds
made_ruled p n d ds r = ap (λ b. if b then record { instance = n; tree = made_instance p (world p d.kind) d } ∷ made_entries p (n + 1) ds else made_entries p (n + 1) ds) r

made_plain : (p : Program) (n : ℕ) (d : Instance) (ds : List Instance) → is_ruled d.kind ≡ false → made_entries p n (d ∷ ds) ≡ made_entries p (n + 1) ds
made_plain p n d ds r = ap (λ b. if b then record { instance = n; tree = made_instance p (world p d.kind) d } ∷ made_entries p (n + 1) ds else made_entries p (n + 1) ds) r

pub line_more : (p : Program) (needs : List (List Need)) (n : ℕ) (d : Instance) (ds : List Instance) (ns : List Need) (old new : Limited) → IsReady p needs → is_ruled d.kind ≡ true → ns ≡ needs_of needs n → IsLine (world p d.kind) ns d n old new → Written p n (d ∷ ds) old.bytes → Written p (n + 1) ds new.bytes
line_more p needs n d ds ns old new h r e l w =
    let made = made_instance p (world p d.kind) d in
    let same : l.tree ≡ made = walked_is p needs n d ds l.tree h.needs w.rest.piece r (w.rest.numbered.0 r) w.rest.sized.0 (derives_first p n d ds r w.rest.derived) (subst (λ z. IsWalked (world p d.kind) z d l.tree) e l.walked) in
    let x : Entry = record { instance = n; tree = l.tree } in
    let rest = lines_text (made_entries p (n + 1) ds) in
    record {
      rest = rest_after p n d ds w.rest;
      is =
          w.is ∙ ap (λ es. old.bytes ++ lines_text es) (made_ruled p n d ds r ∙ ap (λ t. record { instance = n; tree = t } ∷ made_entries p (n + 1) ds) (sym same))
          ∙ ap (λ k. old.bytes ++ k) (line_on x rest l.whole)
          ∙ sym (append_assoc old.bytes (line_text x []) rest)
          ∙ ap (λ k. k ++ rest) (sym l.bytes);
    }

pub plain_more : (p : Program) (n : ℕ) (d : Instance) (ds : List Instance) (old new : List ℕ) → is_ruled d.kind ≡ false → new ≡ old → Written p n (d ∷ ds) old → Written p (n + 1) ds new
plain_more p n d ds old new r e w =
    subst (Written p (n + 1) ds) (sym e) (record { rest = rest_after p n d ds w.rest; is = w.is ∙ ap (λ es. old ++ lines_text es) (made_plain p n d ds r) })

pub all_written : (p : Program) (n : ℕ) (ds : List Instance) (bytes : List ℕ) → ds ≡ [] → Written p n ds bytes → bytes ≡ lines_text (made_entries p 0 p.instances)
all_written p n ds bytes e w = sym (w.is ∙ ap (λ xs. bytes ++ lines_text (made_entries p n xs)) e ∙ append-nil bytes)

-- Where the next line makes the text longer than it may be, the whole is longer.
pub long_text : (p : Program) (needs : List (List Need)) (n : ℕ) (d : Instance) (ds : List Instance) (ns : List Need) (old new : Limited) (limit : ℕ) → IsReady p needs → is_ruled d.kind ≡ true → ns ≡ needs_of needs n → IsLine (world p d.kind) ns d n old new → old.limit ≡ limit → old.limit < length new.bytes → Written p n (d ∷ ds) old.bytes → limit < length (lines_text (made_entries p 0 p.instances))
long_text p needs n d ds ns old new limit h r e l same more w =
    let z = line_more p needs n d ds ns old new h r e l w in
    let rest = lines_text (made_entries p (n + 1) ds) in
    let a : length (lines_text (made_entries p 0 p.instances)) ≡ length (new.bytes ++ rest) = ap (λ (xs : List ℕ). length xs) z.is in
    let b = length-append new.bytes rest in
    omega (arith, same, more, a, b)

-- ---- what is read again

-- a typed program has few instances by its type
pub keeps_limits : (p : Program) → ∥ IsSoundProgram p ∥₁ → HasFewRegisters p → KeepsLimits p
keeps_limits p sound few = record { instances = few_instances p sound; registers = few }

pub text_read : (p : Program) (needs : List (List Need)) (bytes : List ℕ) → IsReady p needs → KeepsLimits p → bytes ≡ lines_text (made_entries p 0 p.instances) → IsProofText bytes (made_entries p 0 p.instances)
text_read p needs bytes h l e = subst (λ (bs : List ℕ). IsProofText bs (made_entries p 0 p.instances)) (sym e) (made_is_read p h.filled h.numbered h.sized h.accepted l)

pub text_derived : (p : Program) (needs : List (List Need)) (bytes : List ℕ) (es : List Entry) → IsReady p needs → KeepsLimits p → bytes ≡ lines_text (made_entries p 0 p.instances) → IsProofText bytes es → IsDerivation p es × AllLean es
text_derived p needs bytes es h l e k =
    let same : made_entries p 0 p.instances ≡ es = one_derivation bytes (made_entries p 0 p.instances) es (text_read p needs bytes h l e) k in
    (subst (IsDerivation p) same (program_derived p h.filled h.numbered h.sized h.accepted), subst AllLean same (program_lean p h.sized h.accepted))

-- ---- errors

-- the error y that was passed on is e
pub one_error : {A : Type 0} (r : Result A TextError) (y e : TextError) → r ≡ Err y → y ≡ e → r ≡ Err TooLong → e ≡ TooLong
one_error r y e a b k = sym b ∙ by r y TooLong a k
  where
    by : {A : Type 0} (r : Result A TextError) (y z : TextError) → r ≡ Err y → r ≡ Err z → y ≡ z
    by r y z a k = cc
