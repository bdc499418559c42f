-- A line's text ends with LF, wherever the brackets stand.
use Rattle.std.proofs.Common.{◌≡◌, ◌∙◌, ℕ, List, ◌++◌, ap, append_assoc}
use Rattle.std.specs.Prelude.{codes}
use Rattle.std.specs.Fmt.{decimal}
use Rattle.session_lines.specs.command_outcome.Texts.{line_end, trap_name, trap_text}
use Rattle.session_lines.specs.session_semantics.Talk.{store_text}
use Rattle.fip_language.specs.declared.TrapKind.{TrapKind}

pub trap_ended : (kind : TrapKind) (line col : ℕ) (name text : List ℕ) → name ≡ trap_name kind → text ≡ codes "trap " ++ (name ++ (codes " at " ++ (decimal line ++ (codes ":" ++ decimal col)))) → text ++ line_end ≡ trap_text kind line col
trap_ended kind line col name text named e =
    ap (λ (t : List ℕ). t ++ line_end) e
    ∙ ap (λ (t : List ℕ). codes "trap " ++ t) (append_assoc name (codes " at " ++ (decimal line ++ (codes ":" ++ decimal col))) line_end ∙ ap (λ (t : List ℕ). name ++ (codes " at " ++ t)) (append_assoc (decimal line) (codes ":" ++ decimal col) line_end))
    ∙ ap (λ (n : List ℕ). codes "trap " ++ (n ++ (codes " at " ++ (decimal line ++ (codes ":" ++ (decimal col ++ line_end)))))) named

pub store_ended : (needed left : ℕ) (text : List ℕ) → text ≡ codes "store too small: " ++ (decimal needed ++ (codes " needed, " ++ (decimal left ++ codes " left"))) → text ++ line_end ≡ store_text needed left
store_ended needed left text e =
    ap (λ (t : List ℕ). t ++ line_end) e
    ∙ ap (λ (t : List ℕ). codes "store too small: " ++ t) (append_assoc (decimal needed) (codes " needed, " ++ (decimal left ++ codes " left")) line_end ∙ ap (λ (t : List ℕ). decimal needed ++ (codes " needed, " ++ t)) (append_assoc (decimal left) (codes " left") line_end))
