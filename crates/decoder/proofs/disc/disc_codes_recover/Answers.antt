use Rattle.std.proofs.Common.{arith}
use Rattle.fields.specs.Binary.{disc}
use Rattle.fields.specs.Fields.{disc_laws}
use Rattle.reed_solomon.specs.Numbers.{Within}
use Rattle.decoder.specs.Lawful.{recovers_within}
use Rattle.decoder.proofs.disc.disc_codes_recover.Goals as goal

within_row : Within 182 172 0 256
within_row = record { some = omega arith; less = omega arith; short = omega arith; fits = omega arith; checks = omega arith; first = omega arith; two = omega arith; bytes = omega arith }

within_column : Within 208 192 0 256
within_column = record { some = omega arith; less = omega arith; short = omega arith; fits = omega arith; checks = omega arith; first = omega arith; two = omega arith; bytes = omega arith }

within_header : Within 6 4 0 256
within_header = record { some = omega arith; less = omega arith; short = omega arith; fits = omega arith; checks = omega arith; first = omega arith; two = omega arith; bytes = omega arith }

pub returns : goal.returns
returns c = record {
  row = recovers_within disc disc_laws 182 172 0 256 5 within_row (omega arith);
  column = recovers_within disc disc_laws 208 192 0 256 8 within_column (omega arith);
  head = recovers_within disc disc_laws 6 4 0 256 1 within_header (omega arith);
}
