-- Names that are offered.
use Rattle.std.proofs.Common.{◌≡◌, ℕ, List, [], ◌∷◌, ◌++◌, refl}
use Rattle.sqlite_schema.specs.declared.schema.Table.{Table}
use Rattle.sql_cells.specs.Offers.{all_columns, column_names, offer, offer_all}

-- to offer two lists is to offer one after the other
offer_append : (word : List ℕ) (offered names more : List (List ℕ))
    → offer_all word offered (names ++ more) ≡ offer_all word (offer_all word offered names) more
offer_append word offered [] more = refl
offer_append word offered (name ∷ names) more = offer_append word (offer word offered name) names more

-- the columns of a table are offered, and then those of the others
pub columns_offered : (word : List ℕ) (offered new all : List (List ℕ)) (table : Table) (rest : List Table)
    → new ≡ offer_all word offered (column_names table.columns)
    → offer_all word offered (all_columns (table ∷ rest)) ≡ all → offer_all word new (all_columns rest) ≡ all
columns_offered word offered new all table rest is whole =
    rw (is, ← offer_append word offered (column_names table.columns) (all_columns rest)) whole
