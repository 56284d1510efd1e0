pub mod WriteLemmas
pub mod PendingLemmas
pub mod PrintingLemmas
pub mod PathLemmas
mod PrintableLemmas
