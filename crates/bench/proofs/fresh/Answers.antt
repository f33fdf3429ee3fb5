use Rattle.std.proofs.Common.{rules, refl, subst, sym}
use Rattle.table.specs.declared.Rows.{Rows}
use Rattle.table.specs.Table.{Held}
use Rattle.table.proofs.Read.{none-held}
use Rattle.router.specs.Router as router
use Rattle.book.specs.Book as book
use Rattle.book.specs.declared.Book.{Book}
use Rattle.book.proofs.Tables.{fresh-law}
use Rattle.start.proofs.Starts.{blank-law}
use Rattle.bench.proofs.fresh.Goals as goal

-- every part is fresh, and lawful
pub returns : goal.returns
returns c =
    let held : Held c.no_rows-rows.result = subst (λ (t : Rows). Held t) (sym c.no_rows-rows.ensures) none-held in (
      λ area long. record {
        lawful = record {
          parts = record {
            queue = c.fresh-queue.ensures.holds.law;
            router = subst router.Lawful (sym c.blank-router.ensures) blank-law;
            rows = held;
          };
          store = subst (λ (b : Book). book.Lawful b area) (sym c.fresh-book.ensures) (fresh-law area long);
        };
        counted = search rules;
        near = search rules;
      },
      refl,
    )
