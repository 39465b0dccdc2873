-- The lines that `serve` writes at its end (our own): one for each external address, in order.
use Rattle.std.specs.Prelude.{ℕ, ◌+◌, List, [], ◌∷◌, ◌++◌, codes, decimal}
use Rattle.job_workers.specs.declared.tallies.TallyRow.{TallyRow}

-- a space, a name, a space and a number
abbrev pub count_text : List ℕ → ℕ → List ℕ
count_text name n = codes " " ++ name ++ codes " " ++ decimal n

-- what became of jobs that were taken, and of replies
abbrev pub done_text : TallyRow → List ℕ
done_text row = count_text (codes "taken") row.taken ++ count_text (codes "replied") row.replied
    ++ count_text (codes "silent") row.silent ++ count_text (codes "unsent") row.unsent

-- and what was refused or dropped
abbrev pub undone_text : TallyRow → List ℕ
undone_text row = count_text (codes "faulted") row.faulted ++ count_text (codes "full") row.full
    ++ count_text (codes "starved") row.starved

abbrev pub row_line : ℕ → TallyRow → List ℕ
row_line place row =
    codes "shard " ++ decimal place ++ done_text row ++ undone_text row ++ 10 ∷ []

-- those of the external addresses from this one on
abbrev pub rows_text : ℕ → List TallyRow → List ℕ
rows_text place [] = []
rows_text place (row ∷ rows) = row_line place row ++ rows_text (place + 1) rows
