-- The replies to the lines of an input, one after another.
-- Idea: what stands written already, followed by the replies to the lines that are left, are the replies to all.
use Rattle.std.proofs.Common.{◌≡◌, ◌≤◌, List, ℕ, zero, suc, [], ◌∷◌, ◌++◌, length, drop, append_assoc, append-nil, ap, ◌∙◌, refl, sym, subst, arith}
use Rattle.session_lines.specs.command_outcome.Texts.{line_end}
use Rattle.session_lines.specs.session_semantics.Talk.{Setting, State, Talks, at_first}
use Rattle.fip_session.specs.Opened.{IsSession, RepliesTo}
use Rattle.fip_session.specs.declared.session.Session.{Session}
pub use Rattle.fip_language.proofs.Facts.{drop_past as none_left}

-- The session replied so to the lines before these.
pub record Follows (o : Setting) (lines : List (List ℕ)) (out : List ℕ) (t : Session) (rest : List (List ℕ)) : Type 0 where
  pub state : State
  pub is : IsSession o t state
  pub talks : (text : List ℕ) → Talks o state rest text → Talks o at_first lines (out ++ text)

pub begins : (o : Setting) (lines : List (List ℕ)) (t : Session) → IsSession o t at_first → Follows o lines [] t lines
begins o lines t is = record { state = at_first; is = is; talks = λ text h. h }

pub goes_on : (o : Setting) (lines : List (List ℕ)) (out : List ℕ) (t u : Session) (line reply : List ℕ) (rest : List (List ℕ)) → (f : Follows o lines out t (line ∷ rest)) → RepliesTo o f.state line reply u → Follows o lines ((out ++ reply) ++ line_end) u rest
goes_on o lines out t u line reply rest f h =
    record {
      state = h.0;
      is = h.2;
      talks = λ text g.
          subst (Talks o at_first lines) (sym (append_assoc out (reply ++ line_end) text) ∙ ap (λ xs. xs ++ text) (sym (append_assoc out reply line_end)))
          (f.talks ((reply ++ line_end) ++ text) (reply ++ line_end, text, h.0, h.1, refl, g));
    }

pub all_reported : (o : Setting) (lines : List (List ℕ)) (out : List ℕ) (t : Session) → Follows o lines out t [] → Talks o at_first lines out
all_reported o lines out t f = subst (Talks o at_first lines) (append-nil out) (f.talks [] refl)
