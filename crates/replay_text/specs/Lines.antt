-- What the methods of a line add to its text. Assumes nothing.
use Rattle.std.specs.Prelude.{cond, List, ℕ, eqb, replicate}
use Rattle.replay_text.specs.Buffer.{Put, put_byte, puts}
use Rattle.replay_text.specs.declared.line.Line.{Line}

-- the bytes of a line, and the place after its text
abbrev pub line_of : Line → Put
line_of l = record { next = l.len; out = l.text }

-- an empty line
unfoldable pub no_text : Put
no_text = record { next = 0; out = replicate 2048 0 }

-- a text more. Callers keep this folded, so that a literal text is not put byte by byte in their proofs
unfoldable pub adds : List ℕ → Put → Put
adds text p = puts text p

-- a space more, unless there is no text
unfoldable pub gapped : Put → Put
gapped p = cond (eqb p.next 0) p (put_byte 32 p)
