pub mod ApartLaws
