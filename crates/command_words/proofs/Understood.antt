-- What the parser of the command line says of words that it took, and of words that it refused.
use Rattle.std.proofs.Common.{◌≡◌, ◌∙◌, ℕ, List, [], sym, ap, ap₂, subst, refl, inl, inr}
use Rattle.std.specs.Prelude.{Option, Some, None, true, option_map}
use Rattle.std.proofs.lemmas.Option.{same_Some, none-some}
use Rattle.clap.specs.Words.{App, Text, Row, fault_of, subcommand_of, is_simple, is_simple_and_free}
use Rattle.clap.specs.Kinds.{Kinds, HasKind, IsAmong}
use Rattle.clap.specs.Values.{kind_of}
use Rattle.clap.specs.declared.error.Error.{Error}
use Rattle.clap.specs.declared.error.kind.ErrorKind.TheVariants as kind
use Rattle.command_words.specs.Words.{Command, command_name, command_app, check_commands, file_commands, machine_commands, run_commands, line_commands, proof_commands, paper_commands, AsksFor, IsAsked, IsCommand}

pub simple : is_simple command_app ≡ true
unfolding check_commands file_commands machine_commands run_commands line_commands proof_commands paper_commands
simple = refl

pub free : is_simple_and_free command_app ≡ true
unfolding check_commands file_commands machine_commands run_commands line_commands proof_commands paper_commands
free = refl

pub simple_app : (a : App) → a ≡ command_app → is_simple a ≡ true
simple_app a e = ap is_simple e ∙ simple

pub free_app : (a : App) → a ≡ command_app → is_simple_and_free a ≡ true
free_app a e = ap is_simple_and_free e ∙ free

pub first_of_pair : {A : Type 0} (o : Option A) (f : A → Text) (g : A → List Row) → option_map (λ (p : Text × List Row). p.0) (option_map (λ a. (f a, g a)) o) ≡ option_map f o
first_of_pair None f g = refl
first_of_pair (Some a) f g = refl

-- a name and rows that are those of a pair are that pair
pair_of : (o : Option (Text × List Row)) (name : Text) (rows : List Row) → Some name ≡ option_map (λ p. p.0) o → Some rows ≡ option_map (λ p. p.1) o → o ≡ Some (name, rows)
pair_of None name rows h k = absurd (none-some name (sym h))
pair_of (Some p) name rows h k = ap Some (sym (ap₂ (λ (n : Text) (r : List Row). (n, r)) (same_Some name p.0 h) (same_Some rows p.1 k)))

-- words that were taken ask for what stands after the name
pub understood : (a : App) (words : List Text) (c : Command) (o : Option (Text × List Row)) (name : Text) (rows : List Row) → a ≡ command_app → fault_of a words ≡ [] → o ≡ subcommand_of a words → Some name ≡ option_map (λ p. p.0) o → Some rows ≡ option_map (λ p. p.1) o → IsAsked rows name c → IsCommand words c
understood a words c o name rows is none entered named given asked = record {
  accepted = subst (λ a. fault_of a words ≡ []) is none;
  rows = rows;
  command = sym (subst (λ a. o ≡ subcommand_of a words) is entered) ∙ pair_of o name rows named given ∙ ap (λ (n : Text). Some (n, rows)) asked.named;
  asks = asked.asks;
}

-- words that were taken ask for nothing where nothing stands after the name
pub nothing_asked : (a : App) (words : List Text) (o : Option (Text × List Row)) (name : Text) (rows : List Row) → a ≡ command_app → o ≡ subcommand_of a words → Some name ≡ option_map (λ p. p.0) o → Some rows ≡ option_map (λ p. p.1) o → ((c : Command) → IsAsked rows name c → ⊥) → (c : Command) → IsCommand words c → ⊥
nothing_asked a words o name rows is entered named given never c h =
    let pair : Some (name, rows) ≡ Some (command_name c, h.rows) = sym (pair_of o name rows named given) ∙ (subst (λ a. o ≡ subcommand_of a words) is entered ∙ h.command) in
    let same : (name, rows) ≡ (command_name c, h.rows) = same_Some (name, rows) (command_name c, h.rows) pair in
    never c (record {
      named = ap (λ (p : Text × List Row). p.0) same;
      asks = subst (λ r. AsksFor r c) (sym (ap (λ (p : Text × List Row). p.1) same)) h.asks;
    })

among_nothing : (e : Error) → HasKind [] e → kind_of e ≡ kind.OutOfMemory
among_nothing e (inl h) = h
among_nothing e (inr h) = absurd h

-- words that were refused, but not for want of memory, ask for nothing
pub refused : (a : App) (words : List Text) (e : Error) → a ≡ command_app → HasKind (fault_of a words) e → (kind_of e ≡ kind.OutOfMemory → ⊥) → (c : Command) → IsCommand words c → ⊥
refused a words e is kinds memory c h = memory (among_nothing e (subst (λ k. HasKind k e) h.accepted (subst (λ a. HasKind (fault_of a words) e) is kinds)))

-- words that were taken ask for nothing where no command was entered
pub nothing_entered : (a : App) (words : List Text) (o : Option (Text × List Row)) → a ≡ command_app → o ≡ subcommand_of a words → o ≡ None → (c : Command) → IsCommand words c → ⊥
nothing_entered a words o is entered none c h =
    absurd (none-some (command_name c, h.rows) (sym none ∙ (subst (λ a. o ≡ subcommand_of a words) is entered ∙ h.command)))

pub none_of_pair : (o : Option (Text × List Row)) → option_map (λ p. p.1) o ≡ None → o ≡ None
none_of_pair None h = refl
none_of_pair (Some p) h = absurd (none-some p.1 (sym h))
