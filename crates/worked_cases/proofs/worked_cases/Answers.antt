use mathlib.Core.Path.{◌≡◌, refl, sym, ◌∙◌}
use mathlib.Core.List.{List}
use Prim.Native.Nat.{ℕ, zero, suc}
use native.Mathlib.Omega.{arith}
use lib.Dec.{lit<, lit≤}
use Rattle.fields.specs.Laws.{cap}
use Rattle.fields.specs.Binary.{disc, product}
use Rattle.fields.specs.Fields.{disc_laws}
use Rattle.algebra.specs.Sums.{sums}
use Rattle.algebra.specs.Lines.{syndrome}
use Rattle.codes.specs.Meaning.{Word}
use Rattle.codes.specs.Answers.{Mends}
use Rattle.codes.proofs.Nearest.{beyond}
use Rattle.reed_solomon.specs.Numbers.{Within}
use Rattle.reed_solomon.specs.Words.{zeros}
use Rattle.reed_solomon.proofs.Apart.{apart}
use Rattle.coding.specs.Coding.{SameMessage}
use Rattle.coding.proofs.Divided.{differ_tail}
use Rattle.decoder.specs.Lawful.{lawful}
use Rattle.reed_solomon.specs.Disc.{disc_header_code}
use Rattle.worked_cases.specs.Cases.{line}
use Rattle.worked_cases.proofs.Header.{first_stuck, second_stuck}
use Rattle.worked_cases.proofs.worked_cases.Goals as goal

header_within : Within 6 4 0 256
header_within = record { some = lit≤ tt; less = lit< tt; short = lit≤ tt; fits = lit< tt; checks = lit≤ tt; first = lit≤ tt; two = lit≤ tt; bytes = lit≤ tt }

plain : Word disc_header_code (line 0 0 0 1 3 2)
unfolding cap product sums syndrome zeros
plain = record { long = refl; below = (lit< tt, (lit< tt, (lit< tt, (lit< tt, (lit< tt, (lit< tt, tt)))))); is = refl }

message : Word disc_header_code (line 0 0 1 0 7 6)
unfolding cap product sums syndrome zeros
message = record { long = refl; below = (lit< tt, (lit< tt, (lit< tt, (lit< tt, (lit< tt, (lit< tt, tt)))))); is = refl }

-- codewords with one message are one codeword
only : (v w : List ℕ) → Word disc_header_code v → Word disc_header_code w → SameMessage 4 v w → v ≡ w
only v w x y same =
    let lv = x.long in
    let lw = y.long in
    let d = differ_tail 4 v w (lv ∙ sym lw) (λ p l l'. same p l) in
    apart disc disc_laws 6 4 0 256 header_within v w x y (omega arith)

stays : (a b c d : ℕ) → SameMessage 4 (line 0 0 1 0 c d) (line 0 0 1 0 a b)
stays a b c d zero l = refl
stays a b c d (suc zero) l = refl
stays a b c d (suc (suc zero)) l = refl
stays a b c d (suc (suc (suc zero))) l = refl
stays a b c d (suc (suc (suc (suc p)))) l = absurd (omega arith)

mended : Mends disc_header_code (line 0 0 0 1 3 18) (line 0 0 0 1 3 2) 1
mended = record {
  long = refl;
  below = (lit< tt, (lit< tt, (lit< tt, (lit< tt, (lit< tt, (lit< tt, tt))))));
  word = plain;
  changes = refl;
  near = lit≤ tt;
}

pub returns : goal.returns
unfolding cap product
returns c = record {
  product_with_reduction = refl;
  product_without = refl;
  codeword = plain;
  coded = λ a b. record {
    long = refl;
    stays = stays a b 7 6;
    word = message;
    only = λ v w same. only v (line 0 0 1 0 7 6) w message (λ p l. same p l ∙ sym (stays a b 7 6 p l));
  };
  mended = mended;
  stuck_by_caution = record {
    long = refl;
    same = refl;
    far = beyond disc_header_code (lawful disc disc_laws 6 4 0 256 header_within) 0 (line 0 0 0 1 3 18) (line 0 0 0 1 3 2) 1 mended (lit< tt);
  };
  stuck = first_stuck;
  stuck_outside = second_stuck;
}
