-- The codes of the disc.
use Rattle.fields.specs.Binary.{disc}
use Rattle.codes.specs.Meaning.{Meaning}
use Rattle.reed_solomon.specs.declared.numbers.CodeNumbers.{CodeNumbers}
use Rattle.reed_solomon.specs.declared.disc.DiscCode.{DiscCode}
use Rattle.reed_solomon.specs.declared.disc.DiscCode.TheVariants.{Rows, Columns, Header}
use Rattle.reed_solomon.specs.Numbers.{Holds}
use Rattle.reed_solomon.specs.Words.{reed_solomon_code}

-- rows of a block: 182 symbols, 10 of them checks
abbrev pub disc_row_code : Meaning
disc_row_code = reed_solomon_code disc 182 172 0 256

-- columns of a block: 208 symbols, 16 of them checks
abbrev pub disc_column_code : Meaning
disc_column_code = reed_solomon_code disc 208 192 0 256

-- headers of sectors: 6 symbols, 2 of them checks
abbrev pub disc_header_code : Meaning
disc_header_code = reed_solomon_code disc 6 4 0 256

-- the code of each name
abbrev pub disc_code : DiscCode → Meaning
disc_code Rows = disc_row_code
disc_code Columns = disc_column_code
disc_code Header = disc_header_code

-- the four numbers of each
abbrev pub DiscNumbers : DiscCode → CodeNumbers → Type 0
DiscNumbers Rows c = Holds 182 172 0 256 c
DiscNumbers Columns c = Holds 208 192 0 256 c
DiscNumbers Header c = Holds 6 4 0 256 c
