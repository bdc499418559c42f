-- The most frames and words, from place to place.
use Rattle.std.proofs.Common.{◌≡◌, ℕ, ◌≤◌, max, ap, ◌∙◌, arith}
use Rattle.machine_step.specs.declared.cursor.Cursor.{Cursor}
use Rattle.machine_step.specs.declared.cursor.Highest.{Highest}
use Rattle.machine_step.specs.Highest.{words_now, IsHigh, IsRaised, IsSame}

pub no_more : (high now : ℕ) → now ≤ high → high ≡ max high now
no_more high now h = omega (arith, h)

-- lower than before
pub raised_lower : (c d : Cursor) → IsHigh c → d.highest ≡ c.highest → d.frames ≤ c.frames → words_now d ≤ words_now c → IsRaised c d
raised_lower c d h same frames words =
    let f = h.frames in
    let w = h.words in
    record {
      frames = ap (λ (x : Highest). x.frames) same ∙ no_more c.highest.frames d.frames (omega (arith, f, frames));
      words = ap (λ (x : Highest). x.words) same ∙ no_more c.highest.words (words_now d) (omega (arith, w, words));
    }

pub raised_same : (c d : Cursor) → IsSame c d → IsHigh c → IsRaised c d
raised_same c d s h =
    let b = s.base in
    let r = s.registers in
    let f = s.frames in
    raised_lower c d h s.highest (omega (arith, f)) (omega (arith, b, r))

pub same_both : (c d e : Cursor) → IsSame c d → IsSame d e → IsSame c e
same_both c d e a b = record { base = b.base ∙ a.base; registers = b.registers ∙ a.registers; frames = b.frames ∙ a.frames; highest = b.highest ∙ a.highest }

pub high_raised : (c d : Cursor) → IsRaised c d → IsHigh d
high_raised c d r =
    let f = r.frames in
    let w = r.words in
    record { frames = omega (arith, f); words = omega (arith, w) }
