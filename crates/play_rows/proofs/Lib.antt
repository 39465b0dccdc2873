pub mod EmptyScripts
