mod CopyLemmas
mod DiskLemmas
mod ReadingLemmas
