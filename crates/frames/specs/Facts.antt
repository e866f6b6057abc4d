-- Control octets worked out from the definitions.
use Rattle.std.specs.Prelude.{◌≡◌, [], Ok, Err}
use Rattle.frames.specs.declared.way.Way.{Way}
use Rattle.frames.specs.declared.way.Way.TheVariants.{One, Two}
use Rattle.frames.specs.declared.kind.Kind.TheVariants.{I, Rnr, Sarm, Dm}
use Rattle.frames.specs.declared.refusal.FrameRefusal.TheVariants.{Control}
use Rattle.frames.specs.Parts.{parts}
use Rattle.frames.specs.Reader.{said_answer}

-- what octets say on their ways, where no information stands behind them
pub record ControlOctets : Type 0 where
  pub sarm : said_answer One 0x1F [] ≡ Ok (parts Sarm 0 0 0 [])
  pub dm : said_answer Two 0x1F [] ≡ Ok (parts Dm 0 0 0 [])
  pub i : (w : Way) → said_answer w 0xA6 [] ≡ Ok (parts I 3 5 0 [])
  pub rnr : (w : Way) → said_answer w 0xF5 [] ≡ Ok (parts Rnr 0 7 1 [])
  pub rej : (w : Way) → said_answer w 0x09 [] ≡ Err Control
  pub other : (w : Way) → said_answer w 0x0F [] ≡ Err Control
